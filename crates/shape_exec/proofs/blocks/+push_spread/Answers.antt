use Rattle.std.proofs.Common.{◌≡◌, ℤ, pos, ◌+ℤ◌, List, [], ◌∷◌, ◌++◌, ◌∙◌, ap, ◌<◌, length, arith, rules}
use Rattle.arrayvec.specs.ArrayVec.{ArrayVec}
use Rattle.shape_exec.specs.Inner.Spread.{spread_under}
use Rattle.shape_exec.proofs.SpreadLaws.{grown, room_along}
use Rattle.shape_exec.proofs.blocks.+push_spread.Goals as goal

pub push_along-loop-offset-preserved : goal.push_along-loop-offset-preserved
push_along-loop-offset-preserved t c =
    let there : c.place_in.result ≡ c.args.part.first +ℤ pos c.loop-offset.offset = first_of (search rules, cc) in
    let joined : c.push.new.self.items ≡ c.copy_coord-next.result.items ++ c.place_in.result ∷ [] = first_of (search rules, cc) in
    let at = c.args.at.now.items in
    let cell = c.args.cell.now in
    let pushed : c.push.new.self.items ≡ at ++ (c.args.part.first +ℤ pos c.loop-offset.offset) ∷ []
    = joined ∙ ap (λ (l : List ℤ). l ++ c.place_in.result ∷ []) (ap (λ v. v.items) c.copy_coord-next.ensures) ∙ ap (λ (x : ℤ). at ++ x ∷ []) there in
    grown (λ x. spread_under cell (at ++ x ∷ []) c.args.rest.now) c.args.part.first c.args.rows.now c.loop-offset.offset c.loop-offset.rows c.push_spread.new.rows
    c.loop-offset.invariant (c.in_ok-push_spread.ensures ∙ ap (λ (l : List ℤ). c.loop-offset.rows ++ spread_under cell l c.args.rest.now) pushed)

pub push_along-push_spread-requires : goal.push_along-push_spread-requires
push_along-push_spread-requires t c =
    let joined : c.push.new.self.items ≡ c.copy_coord-next.result.items ++ c.place_in.result ∷ [] = first_of (search rules, cc) in
    let at = c.args.at.now.items in
    let pushed : c.push.new.self.items ≡ at ++ c.place_in.result ∷ []
    = joined ∙ ap (λ (l : List ℤ). l ++ c.place_in.result ∷ []) (ap (λ v. v.items) c.copy_coord-next.ensures) in
    (omega (arith, c.decreases), room_along at c.push.new.self.items c.place_in.result c.args.rest.now pushed c.requires)

pub push_along-push-requires : goal.push_along-push-requires
push_along-push-requires t c =
    let same = ap (λ (v : ArrayVec ℤ). length v.items) c.copy_coord-next.ensures in
    let less : length c.copy_coord-next.result.items < 6 = omega (arith, same, c.requires) in
    (omega arith, less)
