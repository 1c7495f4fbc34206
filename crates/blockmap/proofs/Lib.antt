mod BitLemmas
mod LaneLemmas
mod MapLemmas
pub mod SpaceLemmas
