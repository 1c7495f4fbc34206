pub mod Halves
pub mod Records
mod Runs
mod Writes
mod Openings
mod Covering
mod Reading
mod Batches
