-- What the contracts of the code cite. Nobody has to believe it: the proofs tie it to the definition.
pub mod Counting
