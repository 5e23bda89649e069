use Rattle.std.proofs.Common.{◌∙◌, ℕ, pos, slice_index_or, arith, List, ap}
use Rattle.std.proofs.lemmas.List.{take_all}
use Rattle.logical_plan.specs.BoxOps.{numbers_at}
use Rattle.group_rows.proofs.KeyLaws.{room_for}
use Rattle.order_exec.proofs.rank_groups.key_at.Goals as goal

pub push-requires : goal.push-requires
push-requires c = (
  omega arith,
  room_for (λ (place : ℕ). slice_index_or c.args.at.now.items place (pos 0)) c.args.dims.now c.loop-place.place-index
      c.loop-place.key.items c.loop-place.invariant c.loop-place-test.true c.requires,
)

pub returns : goal.returns
returns c =
    c.loop-place.invariant ∙ ap (λ (dims : List ℕ). numbers_at dims c.args.at.now.items) (take_all c.loop-place.place-index c.args.dims.now c.loop-place-test.false)
