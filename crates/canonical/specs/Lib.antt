pub mod Canonical
pub mod Encoding
pub mod EdgeRows
