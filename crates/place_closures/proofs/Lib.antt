pub mod PassSteps
pub mod Adding
pub mod PairNumbers
pub mod PairTables
pub mod PairRows
