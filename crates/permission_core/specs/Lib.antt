pub mod ObjectLaws
pub mod Objects
pub mod OperationLaws
pub mod Permissions
