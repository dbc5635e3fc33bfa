pub mod CDemand
