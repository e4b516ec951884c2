pub mod ProductElements
pub mod PairNumbers
pub mod OneElements
