-- Laws of the queue's entries.
pub mod Laws
