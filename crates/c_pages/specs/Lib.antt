pub mod Answers
pub mod Reading
pub mod Refusals
pub mod Calls
