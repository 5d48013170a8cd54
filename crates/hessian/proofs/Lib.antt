pub mod Packing
pub mod Contents
pub mod HoldingsAnswers
