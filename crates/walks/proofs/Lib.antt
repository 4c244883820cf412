-- From one item to a whole query.
pub mod Members
pub mod Borders
pub mod ItemCount
pub mod Giving
pub mod ItemOrder
pub mod Numbers
pub mod Telling
pub mod Agree
