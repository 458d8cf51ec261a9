mod Steps
mod Measured
mod Exchanges
mod Elsewhere
