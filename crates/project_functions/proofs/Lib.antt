pub mod Resolved
pub mod StepLaws
pub mod TypeArgs
pub mod Entering
pub mod OneFunction
pub mod ListTurns
