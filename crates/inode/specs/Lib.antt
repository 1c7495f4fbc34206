pub mod Errors
pub mod Changes
pub mod Bodies
pub mod Bases
pub mod Edges
pub mod Files
pub mod Room
