pub mod Nodes
pub mod SameTypes
pub mod ArrowsInto
pub mod ValueEquations
pub mod TypeEquations
pub mod MeaningEquations
pub mod FormEquations
mod WorkedExamples
mod LawTests
pub mod MapEquations
pub mod TypingEquations
pub mod NeedsEquations
pub mod PlainEquations
pub mod TermChangeEquations
pub mod CertificateEquations
pub mod AppliedMapEquations
pub mod ShortLists
mod SmallCategories
mod SmallSets
mod WorkedAssociatedSheaf
mod WorkedCoequalizers
mod WorkedFilledCategory
mod WorkedFilledPresheaf
mod WorkedFillings
mod WorkedKanExtensions
mod WorkedMaps
mod WorkedNaturality
mod WorkedPlus
mod WorkedPlusLaws
mod WorkedPlusTwice
mod WorkedRestrictions
mod WorkedRightExtension
mod WorkedSheafOnIdempotent
mod WorkedSheaves
mod WorkedLocalForcing
mod WorkedTopologies
mod WorkedUniversals
pub mod CertificateNodes
mod WorkedTerms
mod WorkedCertificates
mod WorkedDerivations
pub mod WorkedRuns
mod WorkedVerdicts
mod WorkedWhy
