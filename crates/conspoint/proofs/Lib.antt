mod Writes
mod Finishing
mod Cuts
mod PointCuts
pub mod DraftLemmas
pub mod SpaceLemmas
pub mod SumLemmas
pub mod StepLemmas
mod FanLemmas
pub mod GroupLemmas
mod ClosureLemmas
mod MarkLemmas
mod BlockLemmas
mod MapNodes
pub mod MapBytes
mod MapWork
mod MapStands
mod MapPlan
mod ImageCuts
mod DiskBlocks
mod FinishedLaws
