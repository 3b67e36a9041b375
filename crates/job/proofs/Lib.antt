pub mod Cuts
pub mod JobRuns
pub mod JobSteps
pub mod LinesCut
