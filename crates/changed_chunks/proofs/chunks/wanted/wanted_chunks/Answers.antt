use Rattle.std.proofs.Common.{◌∙◌, sym, arith}
use Rattle.std.specs.Vec.Iter.{into_iter_items}
use Rattle.array_parts.specs.Cores.{cores_of}
use Rattle.changed_chunks.specs.Wanted.{is_wanted}
use Rattle.changed_chunks.proofs.Kept.{all_kept, one_kept, one_left_out}
use Rattle.changed_chunks.proofs.chunks.wanted.wanted_chunks.Goals as goal

pub returns : goal.returns
returns c =
    let left = c.loop-number.number-iterator in
    all_kept (λ at. is_wanted c.args.put.now.schema.dimensions (cores_of c.args.put.now) at.items) c.args.stored (into_iter_items left) c.loop-number.wanted (omega (arith, left.rest.ok.0, c.in-None.ensures.steps.0)) c.loop-number.invariant

pub loop-number-preserved : goal.loop-number-preserved
loop-number-preserved c =
    one_left_out (λ at. is_wanted c.args.put.now.schema.dimensions (cores_of c.args.put.now) at.items) c.args.stored (into_iter_items c.loop-number.number-iterator) (into_iter_items c.next.new.self) c.loop-number.wanted c.in-Some.number
    c.in-Some.ensures.steps.0 (sym c.in_ok-is_wanted.ensures ∙ c.if-branch.false) c.loop-number.invariant

pub loop-number-preserved-in-Continue-branch-2 : goal.loop-number-preserved-in-Continue-branch-2
loop-number-preserved-in-Continue-branch-2 c =
    one_kept (λ at. is_wanted c.args.put.now.schema.dimensions (cores_of c.args.put.now) at.items) c.args.stored (into_iter_items c.loop-number.number-iterator) (into_iter_items c.next.new.self) c.loop-number.wanted c.push.new.self c.in-Some.number
    c.in-Some.ensures.steps.0 (sym c.in_ok-is_wanted.ensures ∙ c.if-branch.true) c.in_ok-push.ensures.ok c.loop-number.invariant
