pub mod BitLaws
pub mod DetailLaws
pub mod ObjectLaws
pub mod VolumeLaws
mod CountLaws
mod SlotLaws
mod FileLaws
pub mod ChangedLaws
pub mod RoomLaws
