pub mod Pushes
pub mod FunctionTables
pub mod FunctionSquares
pub mod NumberRows
pub mod FunctionElements
pub mod SealedFunctions
