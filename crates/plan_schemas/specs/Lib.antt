pub mod Inner
pub use Rattle.logical_plan.specs.PlanSchema
pub use Rattle.logical_plan.specs.Query
