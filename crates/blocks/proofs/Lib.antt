-- Laws of passes, and of a reader's walks.
pub mod Laws
