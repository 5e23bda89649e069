use Rattle.std.proofs.Common.{◌≡◌, List, true, sym, ◌∙◌, subst}
use Rattle.cell_values.specs.declared.schema.Dimension.{Dimension}
use Rattle.chunk_source.specs.Inner.Alone.{have_no_overlap}
use Rattle.changed_chunks.specs.Inner.Input.{fitted_cores}
use Rattle.changed_chunks.proofs.Rows.{found_on}
use Rattle.changed_chunks.proofs.Unchanged.{alone_can, found_unchanged}
use Rattle.changed_chunks.proofs.chunks.input.array_in.Goals as goal

pub returns-then-is_storable-clause-may : goal.returns-then-is_storable-clause-may
returns-then-is_storable-clause-may c =
    let is = c.is_storable.ensures c.if-is_storable.true in
    let none : have_no_overlap c.args.schema.now.dimensions ≡ true = subst (λ (dims : List Dimension). have_no_overlap dims ≡ true) c.as_slice.ensures (sym c.have_no_overlap.ensures ∙ c.if-have_no_overlap.true) in
    record { same = is.same; can = alone_can c.args.schema.now c.args.array c.requires.cells is none }

pub returns-then-is_storable-clause-found : goal.returns-then-is_storable-clause-found
returns-then-is_storable-clause-found c = found_unchanged c.args.schema.now c.args.array c.requires.cells (c.is_storable.ensures c.if-is_storable.true)

pub returns-clause-found : goal.returns-clause-found
returns-clause-found c = found_on (fitted_cores c.args.schema.now c.args.array) c.in_ok-rows_in.field-0 c.array_of.result c.in_ok-rows_in.ensures.found c.array_of.ensures.found
