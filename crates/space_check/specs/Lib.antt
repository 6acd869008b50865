-- The pass: the audit, the claims, the report, the whole.
pub mod Check
pub mod clauses
