-- Laws of nodes, and the definitions of this layer computed on samples.
pub mod Laws
pub mod Samples
