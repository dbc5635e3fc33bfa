pub mod LookAhead
