mod ExampleLimits
mod Examples
mod RowExamples
mod DirectoryExamples
mod LargeExamples
mod SnapshotExamples
mod RestoreExamples
pub mod AttributeLaws
pub mod OptionLaws
pub mod ListLaws
pub mod ObjectLaws
pub mod TestLaws
pub mod EditLaws
pub mod CountLemmas
pub mod WalkLemmas
pub mod NameLemmas
pub mod ListingLemmas
mod EntryLemmas
pub mod NewTreeLemmas
pub mod OwnLemmas
mod OwnCallLemmas
pub mod VolumeLemmas
pub mod KeptLemmas
pub mod PutLemmas
pub mod LinkLemmas
pub mod SweepLemmas
pub mod FreshLemmas
pub mod RemoveNameLemmas
pub mod RenameLemmas
pub mod FindingLemmas
pub mod NumberLemmas
pub mod ExtendLemmas
pub mod OnceLemmas
pub mod OneOutcomeLemmas
pub mod MountedLemmas
pub mod AddLemmas
pub mod LimitLemmas
pub mod MoveLemmas
pub mod MarkLemmas
pub mod RecordLemmas
pub mod MountLemmas
pub mod LeadLemmas
pub mod LooseLemmas
pub mod TreeMarkLemmas
pub mod PlaceLemmas
pub mod TakeLemmas
pub mod RelocateLemmas
pub mod StayLemmas
pub mod CallLemmas
pub mod ReplaceLemmas
pub mod StateLemmas
pub mod HoleLemmas
mod ToldLemmas
