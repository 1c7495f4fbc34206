pub mod ComeLemmas
pub mod CallLemmas
pub mod GivenLaws
pub mod KeepLemmas
pub mod TellLemmas
