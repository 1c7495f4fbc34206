mod FileLemmas
mod StationLemmas
mod MemoryLemmas
mod AtHandLemmas
