pub mod TokenLemmas
pub mod OperatorLemmas
pub mod Readings
pub mod ChainLemmas
pub mod ExpressionLemmas
pub mod Loops
