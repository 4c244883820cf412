pub mod Running
pub mod Printing
