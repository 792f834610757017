pub mod CommandLine
pub mod Forms
pub mod Found
pub mod Words
