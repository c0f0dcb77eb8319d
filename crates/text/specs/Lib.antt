pub mod Cut
pub mod Left
pub mod Spelling
pub mod Reading
pub mod Writing
pub mod Said
