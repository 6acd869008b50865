-- Laws of the free ring's walk, of sets of indices and of the audit; samples.
pub mod RingLaws
pub mod SetLaws
pub mod WalkLaws
pub mod AuditLaws
pub mod Samples
