pub mod Numbers
pub mod Sums
pub mod Tables
