pub mod Reading
pub mod Entries
pub mod Tables
pub mod Graphs
pub mod Steps
pub mod ListKinds
