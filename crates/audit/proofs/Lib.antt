-- Laws of the audit's steps, of bitmaps, of a byte's bits, of lists of chunks and of addresses, of queued blocks, and of those
-- that log nothing; the main device computed on samples.
pub mod Laws
pub mod BitmapLaws
pub mod ChunkLaws
pub mod DeviceLaws
pub mod QueuedLaws
pub mod OnesLaws
pub mod WholeLaws
pub mod UnloggedLaws
pub mod Samples
