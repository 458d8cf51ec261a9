mod Lines
mod Told
mod Written
