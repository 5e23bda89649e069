pub use Rattle.check_groups.specs.Blocks
pub use Rattle.check_groups.specs.Groups
pub use Rattle.check_groups.specs.Windows
pub mod Crosses
pub mod JoinSchemas
