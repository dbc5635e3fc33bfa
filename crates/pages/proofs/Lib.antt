pub mod Answers
pub mod Bookmarks
pub mod Filling
pub mod PageLists
pub mod Pages
pub mod Walks
