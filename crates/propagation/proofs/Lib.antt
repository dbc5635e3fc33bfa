pub mod Advances
pub mod FreeVertices
pub mod Settling
pub mod SoleConflicts
