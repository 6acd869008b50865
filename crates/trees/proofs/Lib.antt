-- Laws of scans and walks.
pub mod ChildLaws
pub mod ScanLaws
pub mod WalkLaws
pub mod ReadLaws
pub mod QueueLaws
pub mod WiderLaws
