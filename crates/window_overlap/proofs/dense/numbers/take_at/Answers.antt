use Rattle.std.proofs.Common.{ℕ, pos, get_or, rules, refl, sym, ap, ◌∙◌, subst, add-one}
use Rattle.std.proofs.lemmas.Int.{to_z-of_z}
use mir.Val.{SFits}
use mir.Syntax.{w64}
use Rattle.array_rows.specs.Rows.{Coordinate, cell_at}
use Rattle.window_overlap.specs.Inner.Dense.{HasNumber, HasSeen, spot}
use Rattle.window_overlap.proofs.DenseLaws.{seen_none, takes_place}
use Rattle.window_overlap.proofs.dense.numbers.take_at.Goals as goal

pub returns-then-present-place-clause-seen : goal.returns-then-present-place-clause-seen
returns-then-present-place-clause-seen c =
    let fits : SFits w64 (get_or c.args.numbers.now c.args.place (pos 0)) = search rules in
    let take = simp to_z-of_z at c.take_number.ensures.stands in
    λ g grid window corner rows k dense is at h long below seen.
    subst (λ (m : ℕ). HasSeen g window corner rows m c.take_number.new.self) (sym (add-one k))
    (takes_place g window corner rows k c.args.state.now c.take_number.new.self (cell_at rows (spot window corner k)) (get_or c.args.numbers.now c.args.place (pos 0)) is long h refl
    (subst (λ (d : Coordinate). HasNumber g.attribute (cell_at rows d) (get_or c.args.numbers.now c.args.place (pos 0))) at (dense.there c.args.place below c.if-present-place.true))
    (λ rows' row. take g rows' row) seen)

pub returns-else-present-place-clause-seen : goal.returns-else-present-place-clause-seen
returns-else-present-place-clause-seen c = λ g grid window corner rows k dense is at h long below seen.
    subst (λ (m : ℕ). HasSeen g window corner rows m c.args.state.now) (sym (add-one k))
    (seen_none g window corner rows k c.args.state.now (ap (cell_at rows) (sym at) ∙ dense.absent c.args.place below c.if-present-place.false) seen)
