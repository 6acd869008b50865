-- Free queues.
pub mod Queue
