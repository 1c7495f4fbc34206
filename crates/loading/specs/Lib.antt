pub mod InodeBlocks
pub mod Readings
pub mod Images
pub mod Loading
pub mod Laws
pub mod Slots
pub mod Snapshots
