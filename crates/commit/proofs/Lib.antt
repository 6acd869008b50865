-- The theorem about two runs, what it is proved from, and examples that keep its rules and that break them.
pub mod Stores
pub mod Cuts
pub mod Choice
pub mod Taken
pub mod Roles
pub mod Crash
pub mod Example
pub mod ExampleCuts
pub mod ExampleNeeds
pub mod ExampleAddressed
pub mod ExampleVolume
