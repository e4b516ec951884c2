pub mod KeptTuples
pub mod ReadTuples
pub mod MapTables
pub mod WorldsWithMaps
pub mod ServedFormulas
pub mod SieveArrows
pub mod KeptAnswers
