pub mod FormFaults
pub mod Forms
pub mod Manifest
pub mod Paths
pub mod Reading
pub mod Written
