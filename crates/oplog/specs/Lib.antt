pub mod LogEnd
pub mod SavedLog
pub mod Batches
pub mod Internal
