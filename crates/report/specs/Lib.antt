-- Logs, the report, and what a pass answers.
pub mod Report
pub mod clauses
