pub mod Contents
pub mod Laying
pub mod Pieces
