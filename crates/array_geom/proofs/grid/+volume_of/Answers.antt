use Rattle.std.proofs.Common.{◌≡◌, ◌∙◌, ℕ, ◌*◌, ◌<◌, ◌≤◌, ◌^◌, get_or, ap, arith, rules, subst, sym}
use Rattle.array_geom.specs.Geometry.{volume}
use Rattle.array_geom.proofs.PlaceLaws.{some}
use Rattle.array_geom.proofs.Fronts.{all_rest, shorter, small_rest, whole}
use Rattle.array_geom.proofs.grid.+volume_of.Goals as goal

pub overflow_mul-result : goal.overflow_mul-result
overflow_mul-result t c =
    let same : get_or c.args.lengths.now 0 0 * c.volume_of.result ≡ volume c.args.lengths.now = ap (λ (v : ℕ). get_or c.args.lengths.now 0 0 * v)
    c.volume_of.ensures.value ∙ whole c.args.lengths.now c.in-len1-up.len_at_least in
    let small = c.requires.small in
    omega (arith, same, small)

pub volume_of-requires : goal.volume_of-requires
volume_of-requires t c =
    let less = shorter c.args.lengths.now c.in-len1-up.len_at_least in
    let lengths = all_rest (λ (n : ℕ). 0 < n) c.args.lengths.now c.in-len1-up.len_at_least c.requires.lengths in
    let small = small_rest c.args.lengths.now (2 ^ 48) c.in-len1-up.len_at_least c.requires.lengths c.requires.small in
    (search rules, (lengths, small))

pub returns-in-len1-up-clause-some : goal.returns-in-len1-up-clause-some
returns-in-len1-up-clause-some t c =
    subst (λ (n : ℕ). 0 < n) (sym (ap (λ (v : ℕ). get_or c.args.lengths.now 0 0 * v) c.volume_of.ensures.value ∙ whole c.args.lengths.now
    c.in-len1-up.len_at_least)) (some c.args.lengths.now c.requires.lengths)

pub returns-in-len1-up-clause-small : goal.returns-in-len1-up-clause-small
returns-in-len1-up-clause-small t c =
    subst (λ (n : ℕ). n ≤ 2 ^ 48) (sym (ap (λ (v : ℕ). get_or c.args.lengths.now 0 0 * v) c.volume_of.ensures.value ∙ whole c.args.lengths.now
    c.in-len1-up.len_at_least)) c.requires.small

pub returns-in-len1-up-clause-value : goal.returns-in-len1-up-clause-value
returns-in-len1-up-clause-value t c =
    ap (λ (v : ℕ). get_or c.args.lengths.now 0 0 * v) c.volume_of.ensures.value ∙ whole c.args.lengths.now c.in-len1-up.len_at_least
