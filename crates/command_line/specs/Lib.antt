pub mod Arguments
pub mod Values
pub mod Durabilities
pub mod Lines
pub mod Waiting
