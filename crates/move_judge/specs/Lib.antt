pub use Rattle.route_parts.specs.View
pub use Rattle.route_parts.specs.Kept
pub mod Near
pub mod Allowed
pub mod Scope
pub mod Between
pub mod Given
pub mod Laws
