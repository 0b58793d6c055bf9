-- The heads of what is new in an archive.
mod Streams
mod Backwards
pub mod Forwards
mod Turned
mod HeadLooks
mod FedLooks
mod FileLooks
mod OneFile
mod Steps
mod ShownBack
mod Found
