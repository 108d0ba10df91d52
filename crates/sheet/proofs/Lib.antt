pub mod Additions
pub mod Lines
pub mod Walks
pub mod Sheets
