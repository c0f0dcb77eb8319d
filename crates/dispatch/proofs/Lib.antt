pub mod Keeps
pub mod Follow
