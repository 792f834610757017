pub mod Rooms
pub mod WaySums
pub mod AllStops
pub mod Joined
