pub mod Errors
pub mod Caches
pub mod Disks
pub mod Failures
pub mod Memory
pub mod Positions
pub mod Readings
pub mod Reads
