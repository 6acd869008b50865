-- Laws of block 0, the chain and the search for a superblock; samples of the order of refusals.
pub mod NeedLaws
pub mod OpeningLaws
pub mod ChainLaws
pub mod SearchLaws
pub mod Samples
