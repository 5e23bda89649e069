use Rattle.std.proofs.Common.{sym, ap, ◌∙◌}
use Rattle.exec_group.specs.Inner.Parts.{has_parts}
use Rattle.exec_group.proofs.PiecesPartLaws.{no_parts}
use Rattle.exec_group.proofs.pieces.aggregates.aggregate.Goals as goal

pub of_none-requires-clause-none : goal.of_none-requires-clause-none
of_none-requires-clause-none g c = no_parts c.args.dims.now c.args.array.chunks (ap (has_parts c.args.dims.now) (sym c.as_slice.ensures) ∙ sym c.has_parts.ensures ∙ c.if-has_parts.false)
