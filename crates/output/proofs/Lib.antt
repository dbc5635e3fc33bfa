pub mod Printed
pub mod Cases
