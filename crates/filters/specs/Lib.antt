pub mod Classes
pub mod Examples
pub mod Filters
pub mod Footer
pub mod Gathered
pub mod Icon
pub mod Numbers
pub mod Sheet
