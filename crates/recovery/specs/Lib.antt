pub mod Found
pub mod Mend
pub mod Promise
pub mod Search
pub mod Hits
