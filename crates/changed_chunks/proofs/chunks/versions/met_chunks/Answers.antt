use Rattle.std.proofs.Common.{◌∙◌, sym, subst, arith}
use Rattle.std.specs.List.{AllByRecursion}
use Rattle.std.specs.Vec.Iter.{into_iter_items}
use Rattle.array_parts.specs.Cores.{cores_of}
use Rattle.array_parts.specs.Placed.{HasPlaces}
use Rattle.commit_pages.specs.Lengths.{meets}
use Rattle.changed_chunks.proofs.Kept.{all_kept, none_yet, one_kept, one_left_out}
use Rattle.changed_chunks.proofs.chunks.versions.met_chunks.Goals as goal

pub loop-chunk-preserved-in-Continue-branch-2 : goal.loop-chunk-preserved-in-Continue-branch-2
loop-chunk-preserved-in-Continue-branch-2 c = (
  (subst (AllByRecursion (HasPlaces c.args.put.now.schema c.args.put.now.margins.items)) c.in-Some.ensures.steps.0 c.loop-chunk.invariant.0).1,
  one_kept (λ chunk. meets c.args.put.now.schema.dimensions (cores_of c.args.put.now) chunk.at.items) c.args.chunks (into_iter_items c.loop-chunk.chunk-iterator) (into_iter_items c.next.new.self) c.loop-chunk.met c.push.new.self c.in-Some.chunk c.in-Some.ensures.steps.0 (sym c.in_ok-is_met.ensures ∙ c.if-branch.true) c.in_ok-push.ensures.ok
      c.loop-chunk.invariant.1,
)

pub loop-chunk-preserved : goal.loop-chunk-preserved
loop-chunk-preserved c = (
  (subst (AllByRecursion (HasPlaces c.args.put.now.schema c.args.put.now.margins.items)) c.in-Some.ensures.steps.0 c.loop-chunk.invariant.0).1,
  one_left_out (λ chunk. meets c.args.put.now.schema.dimensions (cores_of c.args.put.now) chunk.at.items) c.args.chunks (into_iter_items c.loop-chunk.chunk-iterator) (into_iter_items c.next.new.self) c.loop-chunk.met c.in-Some.chunk c.in-Some.ensures.steps.0 (sym c.in_ok-is_met.ensures ∙ c.if-branch.false) c.loop-chunk.invariant.1,
)

pub is_met-requires-clause-framed : goal.is_met-requires-clause-framed
is_met-requires-clause-framed c = (subst (AllByRecursion (HasPlaces c.args.put.now.schema c.args.put.now.margins.items)) c.in-Some.ensures.steps.0 c.loop-chunk.invariant.0).0.framed

pub loop-chunk-init : goal.loop-chunk-init
loop-chunk-init c =
    let same = c.into_iter-chunk-iterator.ensures.into_iter_gives.0 ∙ c.into_vec-chunk-items.ensures in
    (subst (AllByRecursion (HasPlaces c.args.put.now.schema c.args.put.now.margins.items)) (sym same) c.requires.places.all, none_yet (λ chunk. meets c.args.put.now.schema.dimensions (cores_of c.args.put.now) chunk.at.items) c.args.chunks (into_iter_items c.into_iter-chunk-iterator.result) c.another-met.result same c.another-met.ensures)

pub returns : goal.returns
returns c =
    let left = c.loop-chunk.chunk-iterator in
    all_kept (λ chunk. meets c.args.put.now.schema.dimensions (cores_of c.args.put.now) chunk.at.items) c.args.chunks (into_iter_items left) c.loop-chunk.met (omega (arith, left.rest.ok.0, c.in-None.ensures.steps.0)) c.loop-chunk.invariant.1
