pub mod CommandLemmas
pub mod DataLemmas
pub mod LineLemmas
pub mod NumberLemmas
pub mod SplitLemmas
pub mod UniqueLemmas
pub mod VerbLemmas
pub mod WordLemmas
