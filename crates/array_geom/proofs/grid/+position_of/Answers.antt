use Rattle.std.proofs.Common.{rules, ℕ, ◌*◌, get_or, ap, ◌∙◌, ◌≡◌, ◌<◌, ◌≤◌, ◌^◌, arith, subst, sym}
use Rattle.array_geom.specs.Geometry.{volume}
use Rattle.array_geom.proofs.Positions.{front, none_without_low, none_without_place, place_from}
use Rattle.array_geom.proofs.PlaceLaws.{some}
use Rattle.array_geom.proofs.Fronts.{whole, shorter}
use Rattle.array_geom.proofs.grid.+position_of.Goals as goal

pub returns-in-len1-up-at-clause-place : goal.returns-in-len1-up-at-clause-place
returns-in-len1-up-at-clause-place t c =
    place_from c.args.low.now c.args.lengths.now c.args.at.now c.steps_above-row.result _ _ c.place_in_rows.result c.in-len1-up.len_at_least
    c.in-len1-up-low.len_at_least c.in-len1-up-at.len_at_least
    c.place_in_rows.ensures.value c.position_of-row_size.ensures.volume c.position_of-row_size.ensures.place (search rules)

pub returns-in-empty-at : goal.returns-in-empty-at
returns-in-empty-at t c =
    absurd (none_without_place c.args.low.now c.args.lengths.now c.args.at.now c.in-len1-up.len_at_least c.in-len1-up-low.len_at_least
    c.in-empty-at.len_below c.requires.inside)

pub returns-in-empty-low : goal.returns-in-empty-low
returns-in-empty-low t c =
    absurd (none_without_low c.args.low.now c.args.lengths.now c.args.at.now c.in-len1-up.len_at_least c.in-empty-low.len_below c.requires.inside)

pub position_of-row_size-requires : goal.position_of-row_size-requires
position_of-row_size-requires t c =
    let f = front c.args.low.now c.args.lengths.now c.args.at.now c.in-len1-up.len_at_least c.in-len1-up-low.len_at_least c.in-len1-up-at.len_at_least
    c.requires.low c.requires.lengths c.requires.small c.requires.inside in
    let less = shorter c.args.lengths.now c.in-len1-up.len_at_least in
    (search rules, (f.lowest, (f.counts, (f.small, f.inside))))

pub steps_above-row-requires-clause-count : goal.steps_above-row-requires-clause-count
steps_above-row-requires-clause-count t c =
    (front c.args.low.now c.args.lengths.now c.args.at.now c.in-len1-up.len_at_least c.in-len1-up-low.len_at_least c.in-len1-up-at.len_at_least
    c.requires.low c.requires.lengths c.requires.small c.requires.inside).rows

pub steps_above-row-requires-clause-low : goal.steps_above-row-requires-clause-low
steps_above-row-requires-clause-low t c =
    let f = front c.args.low.now c.args.lengths.now c.args.at.now c.in-len1-up.len_at_least c.in-len1-up-low.len_at_least c.in-len1-up-at.len_at_least
    c.requires.low c.requires.lengths c.requires.small c.requires.inside in
    let known = f.at_least in
    search rules

pub steps_above-row-requires-clause-high : goal.steps_above-row-requires-clause-high
steps_above-row-requires-clause-high t c =
    let f = front c.args.low.now c.args.lengths.now c.args.at.now c.in-len1-up.len_at_least c.in-len1-up-low.len_at_least c.in-len1-up-at.len_at_least
    c.requires.low c.requires.lengths c.requires.small c.requires.inside in
    let known = f.below in
    search rules

pub returns-in-len1-up-at-clause-volume : goal.returns-in-len1-up-at-clause-volume
returns-in-len1-up-at-clause-volume t c =
    let f = front c.args.low.now c.args.lengths.now c.args.at.now c.in-len1-up.len_at_least c.in-len1-up-low.len_at_least c.in-len1-up-at.len_at_least
    c.requires.low c.requires.lengths c.requires.small c.requires.inside in
    ap (λ (v : ℕ). get_or c.args.lengths.now 0 0 * v) c.position_of-row_size.ensures.volume ∙ f.whole

pub overflow_mul-result : goal.overflow_mul-result
overflow_mul-result t c =
    let same : get_or c.args.lengths.now 0 0 * c.position_of-row_size.result.0 ≡ volume c.args.lengths.now =
    ap (λ (v : ℕ). get_or c.args.lengths.now 0 0 * v) c.position_of-row_size.ensures.volume ∙ whole c.args.lengths.now c.in-len1-up.len_at_least in
    let small = c.requires.small in
    omega (arith, same, small)

pub returns-in-len1-up-at-clause-below : goal.returns-in-len1-up-at-clause-below
returns-in-len1-up-at-clause-below t c =
    subst (λ (n : ℕ). c.place_in_rows.result < n) (ap (λ (v : ℕ). get_or c.args.lengths.now 0 0 * v) c.position_of-row_size.ensures.volume ∙ whole
    c.args.lengths.now c.in-len1-up.len_at_least) c.place_in_rows.ensures.below

pub place_in_rows-requires-clause-small : goal.place_in_rows-requires-clause-small
place_in_rows-requires-clause-small t c =
    subst (λ (n : ℕ). n ≤ 2 ^ 48) (sym (ap (λ (v : ℕ). get_or c.args.lengths.now 0 0 * v) c.position_of-row_size.ensures.volume ∙ whole
    c.args.lengths.now c.in-len1-up.len_at_least)) c.requires.small

pub returns-in-empty-clause-below : goal.returns-in-empty-clause-below
returns-in-empty-clause-below t c = some c.args.lengths.now c.requires.lengths
