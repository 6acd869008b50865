-- The free ring of the pool's bitmap: the walk along its list, and the audit of what was visited.
pub mod Ring
pub mod FreeRing
pub mod clauses
