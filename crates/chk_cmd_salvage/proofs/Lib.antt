pub mod LineSizes
pub mod Texts
pub mod Printed
pub mod Salvaged
pub mod Running
