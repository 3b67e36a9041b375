pub mod Asking
pub mod Latest
pub mod ListReadings
pub mod MeteredDays
pub mod Cases
pub mod MonthLoops
pub mod SlotSums
