pub mod Cases
pub mod Canonical
pub mod Rows
pub mod Longest
pub mod RoundTrips
