-- Laws of claims, and the claim of a mapping computed on samples.
pub mod Laws
pub mod UnloggedLaws
pub mod Samples
