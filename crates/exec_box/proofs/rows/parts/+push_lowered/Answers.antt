use Rattle.std.proofs.Common.{◌∙◌, ◌++◌, ℤ, pos, ◌-ℤ◌, List, get_or, append-nil, sym, ap, rules}
use Rattle.std.specs.Int.{w64, saturate_signed}
use Rattle.array_geom.proofs.Fronts.{get_first}
use Rattle.array_geom.proofs.Pairs.{by_pairs_none, no_pairs, pairs_pushed}
use Rattle.exec_box.proofs.rows.parts.+push_lowered.Goals as goal

pub returns-in-len1-up-low : goal.returns-in-len1-up-low
returns-in-len1-up-low t c =
    let at = c.args.at.now in
    pairs_pushed (λ (x : ℤ) (l : ℤ). saturate_signed w64 (x -ℤ l)) at c.args.low.now (get_or at 0 (pos 0)) (pos 0) _ _ _ _ c.in-len1-up.len_at_least
    c.in-len1-up-low.len_at_least (get_first at (pos 0) c.in-len1-up.len_at_least) c.push.ensures.items c.push_lowered.ensures (search rules)

pub returns-in-empty-low : goal.returns-in-empty-low
returns-in-empty-low t c =
    sym (ap (λ (l : List ℤ). c.args.out.now.items ++ l) (by_pairs_none (λ (x : ℤ) (l : ℤ). saturate_signed w64 (x -ℤ l)) c.args.at.now c.args.low.now
    c.in-empty-low.len_below) ∙ append-nil c.args.out.now.items)

pub returns-in-empty : goal.returns-in-empty
returns-in-empty t c = no_pairs (λ (x : ℤ) (l : ℤ). saturate_signed w64 (x -ℤ l)) c.args.at.now c.args.low.now c.args.out.now.items c.in-empty.len_below
