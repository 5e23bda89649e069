pub mod ImageLaws
pub mod TornLaws
