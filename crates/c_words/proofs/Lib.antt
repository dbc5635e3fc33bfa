pub mod Graphs
pub mod Refusals
