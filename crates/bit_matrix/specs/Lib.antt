pub mod Matrices
pub mod Transposition
