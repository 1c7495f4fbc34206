pub mod Bits
pub mod Parts
pub mod Maps
pub mod Changes
pub mod Space
