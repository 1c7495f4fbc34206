pub mod Directory
pub mod Errors
pub mod Edits
pub mod FirstFit
pub mod Listings
pub mod Surveys
pub mod Room
