pub mod CalendarLaws
pub mod Dates
pub mod Days
pub mod Gregorian
pub mod Judging
pub mod Refusals
