pub mod Pins
pub mod Allowed
pub mod Override
pub mod View
pub mod Laws
