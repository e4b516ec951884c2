pub mod TypeRows
