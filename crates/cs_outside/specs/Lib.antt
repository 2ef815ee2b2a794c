pub mod Device
pub mod Guard
pub mod Stream
