-- Laws for the scans.
pub mod Scans
