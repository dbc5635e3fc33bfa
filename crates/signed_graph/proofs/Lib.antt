pub mod Soundness
pub mod EdgeCounts
pub mod Calls
pub mod PackedTables
pub mod RowChecks
