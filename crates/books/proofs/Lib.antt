pub mod Books
pub mod Calls
pub mod OffPeakDays
pub mod Rising
