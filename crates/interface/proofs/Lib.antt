-- Laws that the functions' proofs cite.
pub mod Laws
pub mod NodeLaws
pub mod Samples
