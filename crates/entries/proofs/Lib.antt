pub mod ChangeLaws
pub mod EntryLists
pub mod KnownLaws
pub mod MissingLaws
pub mod Once
