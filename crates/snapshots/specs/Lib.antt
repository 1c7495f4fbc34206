pub mod Found
pub mod Listed
pub mod Prepared
pub mod Taken
