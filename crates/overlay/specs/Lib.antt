pub mod Indexes
pub mod Overlays
pub mod Props
