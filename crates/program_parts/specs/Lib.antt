pub mod Head
pub mod Network
pub mod Pair
pub mod Report
pub mod Standard
pub mod StandardLaws
pub mod Stops
pub mod Streams
