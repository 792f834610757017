mod Bytes
mod CommandLines
mod Flags
mod Found
mod Leaves
mod Paths
mod Rows
