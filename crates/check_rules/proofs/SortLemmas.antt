-- Sorts of arguments, pair by pair.
use Rattle.std.proofs.Common.{◌≡◌, ◌-◌, ◌≤◌, Bool, true, Option, Some, List, [], ◌∷◌, length, take, drop, get_or, sym, ap, ◌∙◌, arith}
use Rattle.std.specs.Prelude.{if◌then◌else◌}
use Rattle.std.proofs.lemmas.List.{take_rest}
use Rattle.cell_values.specs.declared.name.Span.{Span}
use Rattle.afl_trees.specs.Grammar.{span_of}
use Rattle.afl_trees.specs.Term.{Term}
use Rattle.check_rules.specs.Sorts.{first_but_pairs}

-- a pair of the two sorts before the others
pub pair_before : (sort other : Term → Bool) (ts : List Term) (x y : Term) → 2 ≤ length ts → x ≡ get_or ts 0 x → y ≡ get_or ts 1 y
    → sort x ≡ true → other y ≡ true → first_but_pairs sort other (take (length ts - 2) (drop 2 ts)) ≡ first_but_pairs sort other ts
pair_before sort other [] x y two p q e f = absurd (omega arith)
pair_before sort other (a ∷ []) x y two p q e f = absurd (omega arith)
pair_before sort other (a ∷ b ∷ ts) x y two p q e f =
    let left : Option Span = first_but_pairs sort other ts in
    let first : sort a ≡ true = ap sort (sym p) ∙ e in
    let second : other b ≡ true = ap other (sym q) ∙ f in
    ap (first_but_pairs sort other) (take_rest (a ∷ b ∷ ts) 2)
    ∙ sym (ap (λ (t : Bool). if t then left else Some (span_of b)) second)
    ∙ sym (ap (λ (t : Bool). if t then (if other b then left else Some (span_of b)) else Some (span_of a)) first)
