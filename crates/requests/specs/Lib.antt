pub mod Answers
pub mod Entry
pub mod Free
pub mod Plans
pub mod Laws
