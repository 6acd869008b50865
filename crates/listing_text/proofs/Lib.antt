pub mod Laws
pub mod Digits
pub mod Room
pub mod Buffer
pub mod Samples
pub mod Tables
