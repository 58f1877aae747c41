pub mod Numbers
pub mod Keys
pub mod Names
pub mod Laws
