pub mod Entries
pub mod Faults
pub mod Steps
pub mod Tables
pub mod ListKinds
