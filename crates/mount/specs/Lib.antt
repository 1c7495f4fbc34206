pub mod Applying
pub mod Batches
pub mod Batching
pub mod Refusals
pub mod Systems
