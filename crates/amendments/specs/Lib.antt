pub mod Amendments
pub mod Faults
pub mod Acceptance
pub mod Decoding
pub mod AmendmentKind
