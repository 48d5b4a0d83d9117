pub mod CheckReport
pub mod Findings
pub mod Places
pub mod Private
pub mod RecordFindings
pub mod ScriptFindings
pub mod Suggestions
pub mod Warnings
