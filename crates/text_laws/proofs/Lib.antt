pub mod FaultLaws
pub mod EachText
