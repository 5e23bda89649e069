use Rattle.std.proofs.Common.{◌≡◌, ◌∙◌, ◌<◌, ℕ, Bool, true, false, ap, get_or, sym, arith, length, subst}
use Rattle.std.specs.Ordering.{is_eq}
use Rattle.array_rows.specs.Rows.{row_major}
use Rattle.array_geom.specs.Geometry.{volume}
use Rattle.group_rows.specs.Inner.Places.{key_of, place_of, HasKey}
use Rattle.group_rows.proofs.PlaceLaws.{all_at, all_further, same_key, all_first_taken}
use Rattle.group_rows.proofs.places.runs.run_length.Goals as goal

pub loop-count-preserved : goal.loop-count-preserved
loop-count-preserved c =
    let k = c.loop-count.count in
    let positions = c.args.positions.now in
    let marks = c.args.marks.now in
    let group = key_of c.args.grouping.now in
    let grid = c.args.grid.now in
    let at = c.args.at.now.items in
    let less = c.loop-count-test.true in
    let each = c.requires.each in
    let mark : get_or marks k false ≡ true = c.if-not-marks-count.false in
    let equal : is_eq (row_major c.key_at.result.items at) ≡ true = sym c.is_at.ensures ∙ c.if-not-is_at.false in
    let key : group (place_of grid (get_or positions k 0)) ≡ at = ap group (sym c.place.ensures) ∙ sym c.key_at.ensures ∙ same_key c.key_at.result.items at equal in
    record {
      marked = all_further (λ (b : Bool). b ≡ true) marks k false (omega (arith, less, each)) c.loop-count.invariant.marked mark;
      same = all_further (λ (p : ℕ). group (place_of grid p) ≡ at) positions k 0 less c.loop-count.invariant.same key;
    }

pub place-requires-clause-inside : goal.place-requires-clause-inside
place-requires-clause-inside c =
    all_at (λ (p : ℕ). p < volume c.args.grid.now.lengths.items) c.args.positions.now c.loop-count.count 0 c.loop-count-test.true c.requires.inside

pub key_at-requires : goal.key_at-requires
key_at-requires c =
    let grid = c.args.grid.now in
    subst (HasKey c.args.grouping.now) (sym c.place.ensures)
    (all_at (λ (p : ℕ). HasKey c.args.grouping.now (place_of grid p)) c.args.positions.now c.loop-count.count 0 c.loop-count-test.true c.requires.keyed)

pub returns-clause-same : goal.returns-clause-same
returns-clause-same c =
    all_first_taken (λ (p : ℕ). key_of c.args.grouping.now (place_of c.args.grid.now p) ≡ c.args.at.now.items) c.args.positions.now c.loop-count.count (length c.args.positions.now)
    c.loop-count-test.false c.loop-count.invariant.same

pub returns-then-not-is_at-clause-same : goal.returns-then-not-is_at-clause-same
returns-then-not-is_at-clause-same c = c.loop-count.invariant.same

pub returns-then-not-is_at-clause-marked : goal.returns-then-not-is_at-clause-marked
returns-then-not-is_at-clause-marked c = c.loop-count.invariant.marked

pub returns-clause-marked : goal.returns-clause-marked
returns-clause-marked c =
    let over = c.loop-count-test.false in
    all_first_taken (λ (b : Bool). b ≡ true) c.args.marks.now c.loop-count.count (length c.args.positions.now) (omega (arith, over, c.requires.each)) c.loop-count.invariant.marked

pub returns-then-not-is_at-clause-within : goal.returns-then-not-is_at-clause-within
returns-then-not-is_at-clause-within c =
    let less = c.loop-count-test.true in
    omega (arith, less)
