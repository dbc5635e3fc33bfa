pub mod Matrices
pub mod Digits
pub mod Transposition
