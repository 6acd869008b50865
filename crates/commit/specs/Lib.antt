-- The commit rules, and what two runs answer.
pub mod Stores
pub mod Commit
