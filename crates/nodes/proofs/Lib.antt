pub mod Nodes
pub mod Falling
pub mod Below
pub mod Prunes
pub mod Leaves
pub mod Roots
pub mod DueGroups
pub mod ConflictSets
