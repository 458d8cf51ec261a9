pub mod Asked
pub mod Words
pub mod Script
pub mod Answered
pub mod Examples
pub mod Flights
pub mod FlightExamples
pub mod Passing
