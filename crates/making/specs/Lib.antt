pub mod Starts
pub mod Plans
pub mod Images
pub mod Space
