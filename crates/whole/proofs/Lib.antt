-- Laws for the functions' proofs, and the definitions tried.
pub mod Turns
pub mod Jobs
pub mod Rows
