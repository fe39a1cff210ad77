pub mod Queue
pub mod Content
pub mod AnyOrder
pub mod QueueLaws
