mod Few
mod Sums
