-- The effect of each step of a pass.
pub mod Facts
pub mod RuleTargets
pub mod RuleRuns
pub mod Going
pub mod Lending
pub mod Paths
pub mod Moves
pub mod Ruled
pub mod Running
pub mod EntersNone
pub mod Steps
pub mod MachineSteps
