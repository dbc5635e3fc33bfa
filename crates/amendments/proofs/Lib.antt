pub mod Amendments
pub mod Steps
pub mod Graphs
pub mod Decoding
pub mod Openings
pub mod Answers
