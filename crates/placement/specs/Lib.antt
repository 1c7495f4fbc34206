pub mod Nodes
pub mod Files
pub mod Layouts
pub mod Space
pub mod Steps
