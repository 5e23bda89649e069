use Rattle.std.proofs.Common.{refl, subst, sym, false}
use Rattle.cell_values.specs.declared.schema.Schema.{Schema}
use Rattle.array_parts.specs.Cores.{cores_of}
use Rattle.chunk_source.proofs.ReadLemmas.{asked_all, on_err}
use Rattle.commit_pages.specs.Changes.{IsOf}
use Rattle.changed_chunks.specs.Inner.Input.{AreStoredChunks, MayBeStored}
use Rattle.changed_chunks.proofs.Written.{over_told}
use Rattle.changed_chunks.proofs.chunks.target.put_over_leaf.Goals as goal

pub put_over-requires-clause-old : goal.put_over-requires-clause-old
put_over-requires-clause-old g c = subst (λ (schema : Schema). AreStoredChunks schema c.in_ok-old.old) (sym c.requires.schema) c.in_ok-old.ensures.stored

pub returns-clause-told : goal.returns-clause-told
returns-clause-told g c db tells =
    let put = c.args.put.now in
    over_told put c.args.target.now.schema c.args.target.now.schema (cores_of put) _ c.in_ok-old.old c.in_ok-put_over.field-0 c.requires.schema refl refl
    (subst (λ (schema : Schema). MayBeStored schema (cores_of put)) c.requires.schema (record { rows_of = c.requires.put.holds.rows_of; sound = c.requires.put.sound }))
    c.in_ok-old.ensures.stored (c.in_ok-old.ensures.told db tells) c.in_ok-put_over.ensures

pub returns-clause-over : goal.returns-clause-over
returns-clause-over g c = c.in_ok-old.ensures.over

pub returns-clause-cause : goal.returns-clause-cause
returns-clause-cause g c = c.in_ok-old.ensures.cause

pub returns-clause-is_of : goal.returns-clause-is_of
returns-clause-is_of g c =
    subst (λ (schema : Schema). IsOf schema false c.in_ok-put_over.field-0) c.requires.schema c.in_ok-put_over.ensures.is_of

pub returns-clause-asked : goal.returns-clause-asked
returns-clause-asked g c = c.in_ok-old.ensures.asked

pub returns-clause-start : goal.returns-clause-start
returns-clause-start g c = c.in_ok-old.ensures.start

pub returns-in_err-old-clause-front : goal.returns-in_err-old-clause-front
returns-in_err-old-clause-front g c = on_err _ _ c.in_err-old.ensures.front

pub returns-in_err-put_over-clause-start : goal.returns-in_err-put_over-clause-start
returns-in_err-put_over-clause-start g c = c.in_ok-old.ensures.start

pub returns-in_err-put_over-clause-front : goal.returns-in_err-put_over-clause-front
returns-in_err-put_over-clause-front g c = on_err _ _ (asked_all _ _ _ c.in_ok-old.ensures.asked)

pub returns-clause-valid : goal.returns-clause-valid
returns-clause-valid g c = c.in_ok-put_over.ensures.valid

pub returns-clause-kept : goal.returns-clause-kept
returns-clause-kept g c = c.in_ok-old.ensures.kept

pub returns-in_err-put_over-clause-kept : goal.returns-in_err-put_over-clause-kept
returns-in_err-put_over-clause-kept g c = c.in_ok-old.ensures.kept

pub returns-clause-counted : goal.returns-clause-counted
returns-clause-counted g c = c.in_ok-old.ensures.counted
