-- What holds where a table of rules does: each of them.
use Rattle.std.proofs.Common.{◌≡◌, Bool, true, false, not, cond, Ok, List, ◌∷◌, refl}
use Rattle.std.specs.List.{find}
use Rattle.std.specs.Prelude.{Some}
use Rattle.schema_grammar.specs.declared.rules.Rule.{Rule}
use Rattle.check_shapes.specs.Tables.{all_hold, unless_broken}

pub first_holds : (r : Rule) (rules : List Rule) (done : Unit {0}) → all_hold (r ∷ rules) ≡ Ok done → (r.holds ≡ true) × (all_hold rules ≡ Ok done)
first_holds r rules done e = by_test r.holds refl e
  where
    by_test : (b : Bool) → r.holds ≡ b → unless_broken (cond (not b) (Some r) (find (λ x. not x.holds) rules)) ≡ Ok done → (r.holds ≡ true) × (all_hold rules ≡ Ok done)
    by_test true is h = (is, h)
    by_test false is h = cc
