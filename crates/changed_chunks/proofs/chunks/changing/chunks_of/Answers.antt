use Rattle.changed_chunks.proofs.Unchanged.{rows_told, unchanged_told, unchanged_valid}
use Rattle.commit_pages.specs.Changes.{AreValid, IsOf}
use Rattle.std.proofs.Common.{refl, subst, sym, true}
use Rattle.changed_chunks.proofs.chunks.changing.chunks_of.Goals as goal

pub returns-then-is_storable-clause-is_of : goal.returns-then-is_storable-clause-is_of
returns-then-is_storable-clause-is_of c = subst (IsOf c.args.schema.now true) (sym c.whole_version.ensures) ((c.is_storable.ensures c.if-is_storable.true).same, refl)

pub returns-then-is_storable-clause-valid : goal.returns-then-is_storable-clause-valid
returns-then-is_storable-clause-valid c = subst AreValid (sym c.whole_version.ensures) (unchanged_valid c.args.schema.now c.args.array c.requires.cells (c.is_storable.ensures c.if-is_storable.true))

pub returns-then-is_storable-clause-told : goal.returns-then-is_storable-clause-told
returns-then-is_storable-clause-told c db name plan of means =
    unchanged_told c.args.schema.now c.args.array c.requires.cells (c.is_storable.ensures c.if-is_storable.true) db name plan c.whole_version.result of means c.whole_version.ensures

pub returns-clause-told : goal.returns-clause-told
returns-clause-told c = rows_told c.args.schema.now c.args.array c.in_ok-rows_in.field-0 c.stored_chunks.result c.in_ok-rows_in.ensures.found c.stored_chunks.ensures.told
