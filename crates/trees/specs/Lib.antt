-- What is done at the entries and nodes of trees.
pub mod clauses
