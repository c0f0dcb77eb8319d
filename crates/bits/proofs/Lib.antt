pub mod WordBits
pub mod Probes
