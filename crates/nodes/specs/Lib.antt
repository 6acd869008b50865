-- Nodes, scans and walks of trees, the object map.
pub mod Node
pub mod Scan
pub mod Walk
pub mod ObjectMap
pub mod clauses
