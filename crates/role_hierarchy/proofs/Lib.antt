mod Counts
mod OrderLaws
