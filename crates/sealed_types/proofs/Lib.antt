pub mod SealedTypes
