pub mod Lists
pub mod DistinctLists
pub mod RisingLists
pub mod FirstAnswers
