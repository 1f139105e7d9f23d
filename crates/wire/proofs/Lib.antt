pub mod Copies
pub mod Laws
pub mod Turns
pub mod Signed
pub mod Nan
pub mod Forms
pub mod Numbers
