pub mod Costs
pub mod Volumes
