pub mod Cases
pub mod CaseLaws
pub mod Groups
pub mod GroupLaws
