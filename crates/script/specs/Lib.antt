pub mod Words
pub mod Forms
pub mod Verbs
pub mod Lines
pub mod Readings
pub mod Replies
