pub mod BarrenBranches
pub mod Lacking
