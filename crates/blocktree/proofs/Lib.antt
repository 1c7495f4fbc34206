pub mod FanLemmas
pub mod PlaceLaws
pub mod PlaceMapLaws
pub mod WalkLaws
pub mod SlotLaws
pub mod NameLaws
pub mod NodeLaws
pub mod StoredLaws
