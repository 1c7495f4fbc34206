pub mod DivisionLaws
pub mod RemainderLaws
pub mod ChunkLaws
pub mod ChangeLaws
