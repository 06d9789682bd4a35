-- What the contracts over a data symbol's checks cite: places, the checks by a run of positions, and the estimates.
pub mod Checks
pub mod Places
pub mod Numbers
pub mod Estimates
