pub mod Names
pub mod Places
pub mod PlaceMaps
pub mod Trees
