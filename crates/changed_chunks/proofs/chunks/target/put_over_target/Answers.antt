use Rattle.std.proofs.Common.{◌≡◌, ◌++◌, ℕ, map, refl, subst}
use Rattle.std.specs.Prelude.{OnOk, OnErr}
use Rattle.array_parts.specs.Cores.{cores_of}
use Rattle.chunk_source.specs.Source.{AsksFront, asks, listed}
use Rattle.chunk_source.proofs.ReadLemmas.{asked_none, on_err}
use Rattle.changed_chunks.specs.Wanted.{target_wanted}
use Rattle.changed_chunks.proofs.chunks.target.put_over_target.Goals as goal

pub returns-clause-told : goal.returns-clause-told
returns-clause-told g c = c.put_over_leaf.ensures.told

pub returns-clause-counted : goal.returns-clause-counted
returns-clause-counted g c = c.put_over_leaf.ensures.counted

pub returns-clause-over : goal.returns-clause-over
returns-clause-over g c = c.put_over_leaf.ensures.over

pub returns-clause-is_of : goal.returns-clause-is_of
returns-clause-is_of g c = c.put_over_leaf.ensures.is_of

pub returns-clause-asked : goal.returns-clause-asked
returns-clause-asked g c =
    let target = c.args.target.now in
    let old = g.S.ChunkSource.state c.args.source.now in
    let new = g.S.ChunkSource.state c.put_over_leaf.new.source in
    subst (λ (n : ℕ). OnOk c.put_over_leaf.result (new.asked ≡ old.asked ++ map (asks n) (target_wanted target.schema.dimensions (cores_of c.args.put.now) (listed old target)))) c.in_ok-number.ensures c.put_over_leaf.ensures.asked

pub returns-clause-front : goal.returns-clause-front
returns-clause-front g c =
    let target = c.args.target.now in
    let old = g.S.ChunkSource.state c.args.source.now in
    let new = g.S.ChunkSource.state c.put_over_leaf.new.source in
    subst (λ (n : ℕ). OnErr c.put_over_leaf.result (AsksFront (map (asks n) (target_wanted target.schema.dimensions (cores_of c.args.put.now) (listed old target))) old new)) c.in_ok-number.ensures c.put_over_leaf.ensures.front

pub returns-clause-kept : goal.returns-clause-kept
returns-clause-kept g c = c.put_over_leaf.ensures.kept

pub returns-clause-cause : goal.returns-clause-cause
returns-clause-cause g c = c.put_over_leaf.ensures.cause

pub returns-clause-start : goal.returns-clause-start
returns-clause-start g c = c.put_over_leaf.ensures.start

pub returns-clause-valid : goal.returns-clause-valid
returns-clause-valid g c = c.put_over_leaf.ensures.valid

pub returns-in_err-number-clause-front : goal.returns-in_err-number-clause-front
returns-in_err-number-clause-front g c = on_err _ _ (asked_none _ _ _ refl)
