pub mod Asking
pub mod Places
pub mod Showing
pub mod Ledger
