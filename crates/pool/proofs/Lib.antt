-- Laws of the pool's bitmap in place.
pub mod Laws
pub mod LoadLaws
