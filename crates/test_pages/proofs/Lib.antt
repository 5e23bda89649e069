pub mod Two
