pub mod Writing
pub mod Heads
pub mod Cursor
pub mod Laying
