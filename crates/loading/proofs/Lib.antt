mod LostLaws
mod FileLaws
mod MapLaws
pub mod EndLaws
mod TreeLaws
mod LoadLaws
mod Loading
mod ReadyLaws
pub mod SnapshotLaws
