pub mod Doubles
pub mod Windows
pub mod Units
pub mod Laying
pub mod Handing
pub mod Results
pub mod Told
