pub mod Results
pub mod Judged
pub mod Findings
