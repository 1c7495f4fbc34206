pub mod CountingLaws
pub mod SystemLaws
mod PointLaws
mod SettledLaws
mod OpenLaws
mod LoggedLaws
pub mod AheadLaws
mod UnderWayLaws
mod PendingLaws
pub mod LookedLaws
pub mod GoingOnLaws
mod RestLaws
mod SteppingLaws
mod CoveringLaws
pub mod RoomLaws
mod UsageLaws
pub mod CoveredLaws
pub mod ViewLaws
mod CheckpointLaws
mod SnapshotLaws
mod RestoringLaws
