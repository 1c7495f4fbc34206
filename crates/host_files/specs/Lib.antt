pub mod BadList
pub mod ImageStations
pub mod Names
