-- Laws for the functions' proofs.
pub mod Jobs
pub mod Inputs
pub mod Enough
pub mod Results
