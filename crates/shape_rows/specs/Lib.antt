pub mod Laws
pub mod Pulls
