pub mod PlaceLists
pub mod SiteStages
