mod FaultKinds
pub mod GivenLimits
pub mod OneStore
