-- The audit of bitmaps and of the pool.
pub mod Audit
pub mod clauses
