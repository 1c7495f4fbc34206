pub mod Files
pub mod Stations
pub mod Laws
pub mod Memory
pub mod MemoryMeaning
