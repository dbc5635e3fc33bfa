pub mod Arrays
pub mod CDemand
pub mod Counts
