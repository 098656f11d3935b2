pub mod Commands
pub mod MayRun
