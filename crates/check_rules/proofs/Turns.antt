-- Arguments in turn: one step, and what holds of all that is done.
use Rattle.std.proofs.Common.{◌≡◌, ℕ, suc, ◌+◌, ◌-◌, ◌<◌, ◌≤◌, IfOk, Ok, sym, subst, List, [], ◌∷◌, ◌++◌, length, take, drop, get_or, slice_index_or, ap, ◌∙◌, arith}
use Rattle.std.specs.List.{AllByRecursion}
use Rattle.std.proofs.Math.Seq.{drop-cons}
use Rattle.std.proofs.lemmas.List.{length-append, take_all}
use Rattle.check_rules.specs.Checked.{Checked, then}
use Rattle.check_rules.proofs.RulesHolding.{thens, of_answer}
use Rattle.check_rules.specs.InTurn.{in_turn, pairs_in_turn}

pub turn : {A B : Type 0} (step : List B → A → Checked B) (done : List B) (xs : List A) (i : ℕ) (d : A) → i < length xs
    → in_turn step done (drop i xs) ≡ then (step done (slice_index_or xs i d)) (λ y. in_turn step (done ++ y ∷ []) (drop (i + 1) xs))
turn step done xs i d h =
    let more : suc i ≡ i + 1 = omega arith in
    ap (in_turn step done) (drop-cons xs i d h)
    ∙ ap (λ (k : ℕ). then (step done (slice_index_or xs i d)) (λ y. in_turn step (done ++ y ∷ []) (drop k xs))) more

-- one argument more
pub turn_on : {A B : Type 0} (step : List B → A → Checked B) (done : List B) (xs : List A) (i : ℕ) (x : A) (y : B) → i < length xs → x ≡ slice_index_or xs i x → step done x ≡ Ok y
    → in_turn step (done ++ y ∷ []) (drop (i + 1) xs) ≡ in_turn step done (drop i xs)
turn_on {A} {B} step done xs i x y below is e =
    let checked : step done (slice_index_or xs i x) ≡ Ok y = ap (λ (t : A). step done t) (sym is) ∙ e in
    sym (turn step done xs i x below ∙ ap (λ (r : Checked B). then r (λ w. in_turn step (done ++ w ∷ []) (drop (i + 1) xs))) checked)

-- one pair of arguments more
pub pairs_turn : {A B : Type 0} (step : List B → A → A → Checked B) (done : List B) (xs : List A) (x y : A) (z : B) → 2 ≤ length xs → x ≡ get_or xs 0 x → y ≡ get_or xs 1 y → step done x y ≡ Ok z
    → pairs_in_turn step (done ++ z ∷ []) (take (length xs - 2) (drop 2 xs)) ≡ pairs_in_turn step done xs
pairs_turn step done [] x y z some e f g = absurd (omega (arith, some))
pairs_turn step done (a ∷ []) x y z some e f g = absurd (omega (arith, some))
pairs_turn {A} {B} step done (a ∷ b ∷ xs) x y z some e f g =
    let rest : take (length (a ∷ b ∷ xs) - 2) xs ≡ xs = take_all (length (a ∷ b ∷ xs) - 2) xs (omega arith) in
    let first : step done a b ≡ Ok z = ap (λ (t : A). step done t b) (sym e) ∙ ap (λ (t : A). step done x t) (sym f) ∙ g in
    ap (pairs_in_turn step (done ++ z ∷ [])) rest ∙ sym (ap (λ (r : Checked B). then r (λ w. pairs_in_turn step (done ++ w ∷ []) xs)) first)

-- what each step keeps, for arguments of which something holds
module _ {A B : Type 0} (L : A → Type 0) (Kept : List B → Type 0) where
  pub turns_keep : (step : List B → A → Checked B) → ((done : List B) (x : A) → L x → Kept done → IfOk (step done x) (λ y. Kept (done ++ y ∷ [])))
      → (done : List B) (xs : List A) → AllByRecursion L xs → Kept done → IfOk (in_turn step done xs) Kept
  turns_keep step keeps done [] all kept = kept
  turns_keep step keeps done (x ∷ xs) all kept =
      thens Kept (step done x) (λ y. in_turn step (done ++ y ∷ []) xs) (λ y e.
      turns_keep step keeps (done ++ y ∷ []) xs all.1 (of_answer (λ y. Kept (done ++ y ∷ [])) (step done x) y (keeps done x all.0 kept) e))

  pub pairs_keep : (step : List B → A → A → Checked B) → ((done : List B) (x y : A) → L x → L y → Kept done → IfOk (step done x y) (λ z. Kept (done ++ z ∷ [])))
      → (done : List B) (xs : List A) → AllByRecursion L xs → Kept done → IfOk (pairs_in_turn step done xs) Kept
  pairs_keep step keeps done [] all kept = kept
  pairs_keep step keeps done (x ∷ []) all kept = kept
  pairs_keep step keeps done (x ∷ y ∷ xs) all kept =
      thens Kept (step done x y) (λ z. pairs_in_turn step (done ++ z ∷ []) xs) (λ z e.
      pairs_keep step keeps (done ++ z ∷ []) xs all.1.1 (of_answer (λ z. Kept (done ++ z ∷ [])) (step done x y) z (keeps done x y all.0 all.1.0 kept) e))

-- as many are done as there are arguments
more_of : {B : Type 0} (r : Checked (List B)) (m n : ℕ) → m ≡ n → IfOk r (λ zs. length zs ≡ m) → IfOk r (λ zs. length zs ≡ n)
more_of r m n e h = subst (λ (k : ℕ). IfOk r (λ zs. length zs ≡ k)) e h

module _ {A B : Type 0} (step : List B → A → Checked B) where
  counted : (done : List B) (xs : List A) → IfOk (in_turn step done xs) (λ zs. length zs ≡ length done + length xs)
  counted done [] = omega arith
  counted done (x ∷ xs) =
      thens (λ (zs : List B). length zs ≡ length done + length (x ∷ xs)) (step done x) (λ y. in_turn step (done ++ y ∷ []) xs) (λ y e.
      more_of (in_turn step (done ++ y ∷ []) xs) (length (done ++ y ∷ []) + length xs) (length done + length (x ∷ xs)) (omega (arith, length-append done (y ∷ []))) (counted (done ++ y ∷ []) xs))

  pub turns_count : (done : List B) (xs : List A) (ys : List B) → in_turn step done xs ≡ Ok ys → length ys ≡ length done + length xs
  turns_count done xs ys e = of_answer (λ (zs : List B). length zs ≡ length done + length xs) (in_turn step done xs) ys (counted done xs) e
