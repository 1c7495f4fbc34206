pub mod BytePositions
mod ChangeLaws
pub mod EdgeLaws
pub mod FanLemmas
pub mod ComposingLaws
pub mod PutLaws
pub mod BaseLaws
pub mod HeldLaws
pub mod GroupLaws
pub mod RoomLaws
pub mod ExtentLaws
