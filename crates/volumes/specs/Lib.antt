-- The lookup of a volume's mapping, and the claims of the volumes' own trees.
pub mod Lookup
pub mod Volumes
pub mod clauses
