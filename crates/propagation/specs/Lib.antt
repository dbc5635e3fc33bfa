pub mod Propagation
