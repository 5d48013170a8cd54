pub mod Packed
pub mod Demands
pub mod Called
pub mod Holdings
pub mod HoldingsTheorems
pub mod HoldingsProved
