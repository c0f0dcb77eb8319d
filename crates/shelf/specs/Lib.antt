pub mod Walk
pub mod Sound
pub mod Pieces
pub mod Laws
pub mod Standing
pub mod Meeting
pub mod Compared
