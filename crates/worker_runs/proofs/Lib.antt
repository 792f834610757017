mod Asked
mod Ends
mod Halls
mod Lines
mod Live
mod Meetings
mod Prefixes
mod Served
