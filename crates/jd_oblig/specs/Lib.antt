pub mod CaseObligations
pub mod KeptByObligations
pub mod IdentityExample
pub mod ClosedTasks
pub mod CallGraphs
pub mod SkipExample
