pub mod Forms
pub mod Program
pub mod Asks
