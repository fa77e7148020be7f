pub mod BodyWalks
pub mod FoundDepths
pub mod MemberWalks
pub mod PlanSteps
pub mod Unwrapping
pub mod WantedWalks
