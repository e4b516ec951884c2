pub mod Commas
pub mod Ends
pub mod ValueParts
pub mod Spellings
pub mod TypeSpellings
pub mod ZippedLists
pub mod TypedValues
pub mod ObjectLines
pub mod Entries
pub mod AnswerLists
mod WorkedExamples
mod WorkedReports
