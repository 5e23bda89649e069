pub mod Among
pub mod BytesLaws
pub mod Frames
pub mod Growing
pub mod Loop
pub mod PagesLaws
pub mod Puts
pub mod Rules
pub mod SchemasLaws
mod Worked
