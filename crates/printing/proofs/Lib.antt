pub mod ColumnLaws
pub mod Printing
pub mod Showing
