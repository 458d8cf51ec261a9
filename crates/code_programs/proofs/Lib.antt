mod Any
mod Once
mod Premises
mod Short
