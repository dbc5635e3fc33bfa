pub mod Calls
pub mod Counts
pub mod Distinct
pub mod Reading
pub mod Records
pub mod Walks
