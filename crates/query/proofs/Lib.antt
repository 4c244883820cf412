-- Laws, for the functions' proofs and for the crates above.
pub mod Parts
pub mod Standing
pub mod ItemLaws
pub mod Walking
pub mod Inside
pub mod Going
pub mod Answering
pub mod Outcomes
