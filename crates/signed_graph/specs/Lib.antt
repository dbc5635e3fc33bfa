pub mod Graphs
pub mod Soundness
pub mod Calls
pub mod Rows
pub mod Samples
pub mod Tables
pub mod Thresholds
