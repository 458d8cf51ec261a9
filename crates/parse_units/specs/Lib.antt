pub mod Refused
pub mod RoundTrip
