-- The internal pool and its bitmap.
pub mod Pool
pub mod clauses
