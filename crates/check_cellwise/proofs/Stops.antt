-- An argument that breaks a rule ends the turn of the arguments.
use Rattle.std.proofs.Common.{◌≡◌, ◌∙◌, ℕ, ◌+◌, ◌<◌, ◌≤◌, Result, Ok, Err, List, [], ◌∷◌, ◌++◌, length, drop, get_or, slice_index_or, sym, subst, arith}
use Rattle.std.specs.Result.{IsErrAnd}
use Rattle.check_rules.specs.Checked.{Answers, Checked}
use Rattle.check_rules.specs.InTurn.{in_turn, pairs_in_turn}
use Rattle.check_rules.specs.declared.rules.fault.TypeFault.{TypeFault}
use Rattle.check_rules.proofs.Steps.{err_then}
use Rattle.check_rules.proofs.Turns.{turn}

-- what is handed on with `?`
pub handed_on : {A : Type 0} (r : Result A TypeFault) (fault : TypeFault) (checked : Checked A) → IsErrAnd r (λ other. other ≡ fault) → Answers {A = A} (Err fault) checked → Answers r checked
handed_on (Ok a) fault checked same h = absurd same
handed_on {A} (Err other) fault checked same h = subst (λ (f : TypeFault). Answers {A = A} (Err f) checked) (sym same) h

pub turn_stops : {A B : Type 0} (step : List B → A → Checked B) (done : List B) (xs : List A) (i : ℕ) (x : A) (fault : TypeFault) → i < length xs → x ≡ slice_index_or xs i x
    → Answers {A = B} (Err fault) (step done x) → in_turn step done (drop i xs) ≡ in_turn step [] xs → Answers {A = List B} (Err fault) (in_turn step [] xs)
turn_stops {A} {B} step done xs i x fault below is broken before =
    subst (λ (checked : Checked (List B)). Answers {A = List B} (Err fault) checked) (sym (turn step done xs i x below) ∙ before)
    (err_then fault (step done (slice_index_or xs i x)) (λ y. in_turn step (done ++ y ∷ []) (drop (i + 1) xs))
    (subst (λ (t : A). Answers {A = B} (Err fault) (step done t)) is broken))

pub pairs_stop : {A B : Type 0} (step : List B → A → A → Checked B) (done : List B) (xs : List A) (x y : A) (fault : TypeFault) → 2 ≤ length xs → x ≡ get_or xs 0 x → y ≡ get_or xs 1 y
    → Answers {A = B} (Err fault) (step done x y) → Answers {A = List B} (Err fault) (pairs_in_turn step done xs)
pairs_stop step done [] x y fault some e f broken = absurd (omega (arith, some))
pairs_stop step done (a ∷ []) x y fault some e f broken = absurd (omega (arith, some))
pairs_stop {A} {B} step done (a ∷ b ∷ xs) x y fault some e f broken =
    err_then fault (step done a b) (λ z. pairs_in_turn step (done ++ z ∷ []) xs)
    (subst (λ (t : A). Answers {A = B} (Err fault) (step done t b)) e (subst (λ (t : A). Answers {A = B} (Err fault) (step done x t)) f broken))
