pub mod Unbuilt
pub mod Answers
pub mod Intake
