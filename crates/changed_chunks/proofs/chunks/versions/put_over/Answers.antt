use Rattle.std.proofs.Common.{◌≡◌, List, true, sym, ◌∙◌, subst}
use Rattle.cell_values.specs.declared.schema.Dimension.{Dimension}
use Rattle.chunk_source.specs.Inner.Alone.{have_no_overlap}
use Rattle.changed_chunks.proofs.chunks.versions.put_over.Goals as goal

pub put_over_cores-requires-clause-none : goal.put_over_cores-requires-clause-none
put_over_cores-requires-clause-none c = subst (λ (dims : List Dimension). have_no_overlap dims ≡ true) c.as_slice.ensures (sym c.have_no_overlap.ensures ∙ c.if-have_no_overlap.true)
