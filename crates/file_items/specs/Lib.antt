pub use Rattle.cell_values.specs.Naming
pub use Rattle.cell_values.specs.declared.schema.Kind
pub use Rattle.cell_values.specs.declared.schema.Schema
pub mod Items
pub mod Pages
pub mod Spelling
pub mod Table
