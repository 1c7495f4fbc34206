pub mod Indexed
pub mod OverlayLaws
