pub mod Slots
pub mod Settled
pub mod Inodes
pub mod Objects
pub mod Volumes
pub mod Room
pub mod Giving
