-- Laws of places and paths, for this crate and those above.
pub mod PlaceLaws
pub mod PathLaws
pub mod Checking
pub mod Machine
pub mod Grammars
pub mod Reading
