pub mod BookModels
pub mod Books
pub mod Calls
pub mod OffPeak
