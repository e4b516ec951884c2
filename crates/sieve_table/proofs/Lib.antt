pub mod SieveMembers
pub mod SieveComposites
pub mod AddedRows
