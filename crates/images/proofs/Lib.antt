pub mod SumLaws
pub mod KindLaws
pub mod EmptyLaws
pub mod FanLemmas
mod Frames
pub mod OverlayLaws
pub mod PointLaws
mod VolumeLaws
pub mod StateLaws
mod LowLaws
mod SizeLaws
mod FaultLaws
pub mod ReadableLaws
mod FreeLaws
mod InodeFileLaws
mod BaseLaws
pub mod WithinLaws
mod HoldLaws
mod StepLaws
mod AloneLaws
mod SlotLaws
pub mod FirstLaws
mod NewRootLaws
pub mod ReadingLaws
mod SpanLaws
mod BehindLaws
mod OwnLaws
mod RoomLaws
mod CutLaws
mod IdleLaws
