pub mod Bytes
pub mod BulkReads
pub mod ReadLoop
pub mod BulkWrites
pub mod WriteLoop
pub mod AsSessions
pub mod Exact
pub mod Callers
