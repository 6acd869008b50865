-- The answer as C is handed it.
pub mod Places
pub mod Figures
pub mod Node
pub mod clauses
