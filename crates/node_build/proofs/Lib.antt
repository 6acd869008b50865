-- Laws of what is handed over and of a node's regions; that a built node reads back; samples.
pub mod Stands
pub mod Laws
pub mod RegionLaws
pub mod Places
pub mod RoundTrip
pub mod Samples
