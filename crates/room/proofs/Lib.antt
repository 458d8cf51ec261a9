pub mod RoomsCross
pub mod Serving
