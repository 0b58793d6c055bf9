pub mod Printed
pub mod OneLine
pub mod Silent
pub mod CallKinds
pub mod AtMost
pub mod Talking
