-- Laws of the sums.
pub mod Laws
