use Rattle.std.proofs.Common.{List, subst}
use Rattle.std.specs.List.{AllByRecursion}
use Rattle.cell_values.specs.declared.datum.Cell.{Cell}
use Rattle.array_parts.specs.Inner.Quickly.{StaysAnywhere}
use Rattle.array_parts.proofs.StayLaws.{made_of_itself}
use Rattle.array_parts.proofs.Steps.{part_made}
use Rattle.array_parts.proofs.chunks.chunks.change_chunk.Goals as goal

pub returns-then-all_stay-clause-made : goal.returns-then-all_stay-clause-made
returns-then-all_stay-clause-made g c =
    let change = g.C.CellChange.changed c.args.change.now in
    made_of_itself change c.args.schema.now.dimensions c.args.margins.now.items c.args.chunk c.requires.placed (subst (λ (cells : List Cell). AllByRecursion (StaysAnywhere change) cells) c.form.ensures (c.all_stay.ensures c.if-all_stay.true))

pub returns-then-all_stay-clause-part : goal.returns-then-all_stay-clause-part
returns-then-all_stay-clause-part g c = λ rows part.
    part_made (g.C.CellChange.changed c.args.change.now) c.args.schema.now.dimensions c.args.margins.now.items rows c.args.chunk c.args.chunk part (returns-then-all_stay-clause-made g c)
