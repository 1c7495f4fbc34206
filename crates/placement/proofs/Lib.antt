mod FanLemmas
pub mod StepLaws
mod PlacedLaws
mod MovedLaws
mod HeldLaws
mod StandLaws
mod InlineLaws
mod LaidLaws
mod FileLaws
mod SettledLaws
mod AmongLaws
mod ListLaws
mod FirstLaws
mod HoleLaws
mod CostLaws
mod RaiseLaws
pub mod OneLaws
