pub mod Bytes
pub mod CutLines
pub mod Faulted
pub mod Marked
pub mod Runs
pub mod Sending
pub mod WholeRuns
