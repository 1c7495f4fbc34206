pub mod SectorLaws
pub mod KeptLaws
pub mod DiskLaws
pub mod ReadLaws
