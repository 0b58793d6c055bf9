mod Newest
mod Paths
mod Placing
mod Waiting
