pub mod Marks
pub mod Filter
