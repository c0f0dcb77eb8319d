pub mod Cell
pub mod Head
pub mod Block
pub mod Laws
