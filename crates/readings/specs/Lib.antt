pub mod CodeBytes
pub mod Codes
pub mod Cuts
pub mod FullMonths
pub mod Runs
pub mod SheetModels
pub mod Sheets
