-- The claims on blocks.
pub mod Claims
pub mod clauses
