mod Names
mod Lists
mod Changed
mod Down
mod Steps
