pub mod BoxSteps
pub mod ItemPlaces
pub mod KeptSteps
pub mod ProjectSteps
pub mod SameLaws
mod SameShapes
pub mod Settling
pub mod StayLaws
pub mod Steps
pub mod ValidLess
pub mod WideRows
pub mod WideShapes
pub mod Widths
mod WorkedRewrites
