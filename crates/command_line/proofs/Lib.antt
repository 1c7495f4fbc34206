pub mod Simple
pub mod ValueLemmas
pub mod ReadingLemmas
pub mod WaitLemmas
