pub mod Laws
pub mod ForReader
pub mod ForWriter
pub mod Theorems
