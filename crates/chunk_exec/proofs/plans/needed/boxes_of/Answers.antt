use Rattle.std.proofs.Common.{subst, sym}
use Rattle.cell_values.specs.Schemas.{IsValid}
use Rattle.logical_plan.proofs.SchemaLaws.{typed_valid}
use Rattle.chunk_exec.proofs.plans.needed.boxes_of.Goals as goal

pub bounds-requires : goal.bounds-requires
bounds-requires c = subst IsValid (sym c.in_ok-schema.ensures.value) (typed_valid c.args.plan.now c.requires)
