pub mod Entries
pub mod Looks
pub mod Marks
pub mod Known
