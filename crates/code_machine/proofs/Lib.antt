mod Alike
mod Waiting
mod Standing
mod Meant
