pub mod ClassPresheaf
pub mod SumPresheaf
pub mod PushoutByClasses
pub mod OneColimit
pub mod LabelSteps
pub mod ClassRows
pub mod SumRows
pub mod MadePushout
