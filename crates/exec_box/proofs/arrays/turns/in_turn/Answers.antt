use Rattle.std.proofs.Common.{◌≡◌, ◌∙◌, [], rules, arith}
use Rattle.std.proofs.lemmas.Grind.{common_steps}
use Rattle.std.specs.Vec.Iter.{into_iter_items}
use Rattle.chunk_workers.proofs.PieceLaws.{ended}
use Rattle.exec_box.proofs.TurnLaws.{first_accepted, none_made, one_made}
use Rattle.exec_box.proofs.arrays.turns.in_turn.Goals as goal

pub work-requires : goal.work-requires
work-requires g c =
    first_accepted (g.W.Work.accepts c.args.work.now) c.in-Some.number (into_iter_items c.loop-number.number-iterator) (into_iter_items c.next.new.self)
    c.in-Some.ensures.steps.0 c.loop-number.invariant.0

pub loop-number-init : goal.loop-number-init
loop-number-init g c =
    none_made (g.W.Work.accepts c.args.work.now) (g.W.Work.gives c.args.work.now) c.args.numbers _ c.in_ok-made.made
    (c.into_iter-number-iterator.ensures.into_iter_gives.0 ∙ c.into_vec-number-items.ensures) c.in_ok-made.ensures c.requires

pub loop-number-preserved : goal.loop-number-preserved
loop-number-preserved g c =
    one_made (g.W.Work.accepts c.args.work.now) (g.W.Work.gives c.args.work.now) c.args.numbers _ (into_iter_items c.next.new.self) c.in-Some.number
    c.in_ok-work.field-0 c.loop-number.made c.push.new.self c.in-Some.ensures.steps.0 c.in_ok-work.ensures c.in_ok-push.ensures.ok c.loop-number.invariant

pub returns : goal.returns
returns g c =
    let none : into_iter_items c.loop-number.number-iterator ≡ [] = first_of (search rules, grind (arith, common_steps)) in
    ended (g.W.Work.gives c.args.work.now) c.args.numbers (into_iter_items c.loop-number.number-iterator) c.loop-number.made none c.loop-number.invariant.1
