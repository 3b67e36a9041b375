pub mod Laws
pub mod Years
