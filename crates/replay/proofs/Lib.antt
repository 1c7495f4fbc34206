pub mod GraphLaws
mod Errors
pub mod RecordLaws
pub mod SavedLaws
mod SweepLaws
