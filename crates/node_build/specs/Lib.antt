-- Nodes built to order: their bytes, what a request is answered, and what reading one gives.
pub mod Build
pub mod Asked
pub mod Readback
pub mod clauses
