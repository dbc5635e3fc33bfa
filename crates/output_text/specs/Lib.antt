pub mod Records
pub mod PageTexts
