mod NodeRuns
mod Saying
