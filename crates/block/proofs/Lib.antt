pub mod Cells
pub mod Rows
pub mod Chunks
pub mod Blocks
pub mod Places
pub mod Written
pub mod Writings
