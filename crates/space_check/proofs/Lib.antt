-- Laws of the pass: which refusals come late, what every answer has, its stages, and that they are the definition.
pub mod Late
pub mod Ends
pub mod Overlaps
pub mod PassLaws
pub mod CheckLaws
