pub mod Reading
pub mod Refusals
pub mod Records
