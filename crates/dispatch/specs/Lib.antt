pub mod Serving
pub mod Changing
pub mod Showing
pub mod Answering
pub mod OpenFiles
pub mod Preparing
pub mod Fulfilling
pub mod Waiting
