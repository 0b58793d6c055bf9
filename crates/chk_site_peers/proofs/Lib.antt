-- The peers of a listening address.
mod Going
