pub mod BadListLemmas
