mod ProgressLaws
mod PointLaws
mod SpellingLaws
mod MarkLaws
mod NumberLaws
mod MapLaws
mod TrimLaws
mod StepLaws
mod ChangeLaws
mod JoinLaws
mod OwnLaws
mod MapFileLaws
mod BaseLaws
mod WholeLaws
mod PlanLaws
pub mod RoomLaws
mod StartLaws
mod SettledLaws
mod LoopLaws
mod SpaceLaws
mod TopLaws
mod PromiseLaws
mod TellLaws
pub mod NeedLaws
