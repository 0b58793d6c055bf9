pub mod Queues
pub mod Refusals
pub mod QueueFields
