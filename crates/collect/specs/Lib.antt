pub mod Entries
pub mod Reads
pub mod Visits
