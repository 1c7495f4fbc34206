pub mod SlotLaws
pub mod NamedLaws
mod ListLaws
mod CountLaws
mod TakeLaws
pub mod PreparedLaws
