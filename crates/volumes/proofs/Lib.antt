-- Laws of lookups, of the volumes' superblocks and of their claims, and the definitions of this layer computed on samples.
pub mod LookupLaws
pub mod VolumeLaws
pub mod ClaimLaws
pub mod Samples
