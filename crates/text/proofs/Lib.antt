pub mod Counts
pub mod Cuts
pub mod Folds
pub mod Laws
pub mod Spells
