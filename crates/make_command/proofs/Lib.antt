pub mod Loops
pub mod Printed
pub mod LossTexts
