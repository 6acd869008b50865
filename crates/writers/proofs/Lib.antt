-- Laws of writing.
pub mod Laws
