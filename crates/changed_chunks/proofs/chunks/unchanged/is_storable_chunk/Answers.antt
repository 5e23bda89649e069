use Rattle.std.proofs.Common.{sym, ◌∙◌, subst, List}
use Rattle.std.specs.List.{AllByRecursion}
use Rattle.std.specs.Prelude.{IsTrue}
use Rattle.cell_values.specs.declared.schema.Attribute.{Attribute}
use Rattle.logical_plan.specs.Typing.{is_sound}
use Rattle.changed_chunks.proofs.chunks.unchanged.is_storable_chunk.Goals as goal

pub returns-then-holds_cell : goal.returns-then-holds_cell
returns-then-holds_cell c = λ are. record {
  held = sym c.holds_cell.ensures ∙ c.if-holds_cell.true;
  sound = subst (λ (many : List Attribute). AllByRecursion (λ cell. IsTrue (is_sound many cell)) c.args.chunk.now.cells) c.as_slice.ensures (c.are_sound.ensures are);
}
