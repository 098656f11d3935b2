pub mod Opening
pub mod Judgements
