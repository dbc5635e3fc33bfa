pub mod Answers
pub mod Filling
pub mod PageLists
pub mod Pages
