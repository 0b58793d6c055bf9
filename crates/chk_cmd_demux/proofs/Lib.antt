mod Lines
mod CallKinds
mod Prints
mod Told
