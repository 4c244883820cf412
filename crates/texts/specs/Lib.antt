pub mod Grammar
pub mod Nodes
pub mod Prefixes
pub mod Machine
pub mod Texts
pub mod Characters
