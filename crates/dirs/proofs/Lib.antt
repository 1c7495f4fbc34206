pub mod NameLaws
pub mod CountLaws
pub mod SurveyLaws
pub mod HoldLaws
pub mod KnownLaws
pub mod ListingLaws
mod LookLaws
