pub mod Given
pub mod Handles
