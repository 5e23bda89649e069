-- Lists from which what passes a test is kept, one after the other, and lines that are written piece by piece.
use Rattle.std.proofs.Common.{◌≡◌, ℕ, Bool, true, false, cond, List, [], ◌∷◌, ◌++◌, length, Result, Ok, Err, OnOk, sym, ap, ◌∙◌, append_assoc, arith}
use Rattle.std.specs.Prelude.{filter}
use Rattle.std.proofs.lemmas.List.{append-nil}

-- ---- what passes a test

module _ {A : Type 0} (p : A → Bool) (all : List A) where
  pub none_yet : (items made : List A) → items ≡ all → made ≡ [] → made ++ filter p items ≡ filter p all
  none_yet items made e n = (λ i. n i ++ filter p (e i))

  pub one_kept : (left rest made new : List A) (x : A) → left ≡ x ∷ rest → p x ≡ true → new ≡ made ++ x ∷ [] → made ++ filter p left ≡ filter p all → new ++ filter p rest ≡ filter p all
  one_kept left rest made new x e passes n so_far =
      ap (λ (z : List A). z ++ filter p rest) n ∙ append_assoc made (x ∷ []) (filter p rest)
      ∙ ap (λ (b : Bool). made ++ cond b (x ∷ filter p rest) (filter p rest)) (sym passes) ∙ ap (λ (z : List A). made ++ filter p z) (sym e) ∙ so_far

  pub one_left_out : (left rest made : List A) (x : A) → left ≡ x ∷ rest → p x ≡ false → made ++ filter p left ≡ filter p all → made ++ filter p rest ≡ filter p all
  one_left_out left rest made x e fails so_far =
      ap (λ (b : Bool). made ++ cond b (x ∷ filter p rest) (filter p rest)) (sym fails) ∙ ap (λ (z : List A). made ++ filter p z) (sym e) ∙ so_far

  pub all_kept : (left made : List A) → length left ≡ 0 → made ++ filter p left ≡ filter p all → made ≡ filter p all
  all_kept [] made none so_far = sym (append-nil made) ∙ so_far
  all_kept (x ∷ left) made none so_far = absurd (omega (arith, none))

-- ---- a line

joined : (out a b p q : List ℕ) → a ≡ out ++ p → b ≡ a ++ q → b ≡ out ++ (p ++ q)
joined out a b p q e f = f ∙ ap (λ (z : List ℕ). z ++ q) e ∙ append_assoc out p q

on_ok : {T E P Q : Type 0} (answer : Result T E) → (P → Q) → OnOk answer P → OnOk answer Q
on_ok (Ok x) f p = f p
on_ok (Err e) f p = p

inside : (h w x o s e : List ℕ) → h ++ (w ++ x ++ o ++ s ++ e) ≡ h ++ w ++ x ++ o ++ s ++ e
inside h w x o s e =
    sym (append_assoc h (w ++ x ++ o ++ s) e)
    ∙ ap (λ (z : List ℕ). z ++ e) (sym (append_assoc h (w ++ x ++ o) s)
    ∙ ap (λ (z : List ℕ). z ++ s) (sym (append_assoc h (w ++ x) o)
    ∙ ap (λ (z : List ℕ). z ++ o) (sym (append_assoc h w x))))

module _ {T E : Type 0} (answer : Result T E) (out a b d f new : List ℕ) where
  pub counts_written : (w x o s e : List ℕ) → a ≡ out ++ w → b ≡ a ++ x → d ≡ b ++ o → f ≡ d ++ s → OnOk answer (new ≡ f ++ e) → OnOk answer (new ≡ out ++ (w ++ x ++ o ++ s ++ e))
  counts_written w x o s e h i j k last =
      on_ok answer (joined out f new (w ++ x ++ o ++ s) e (joined out d f (w ++ x ++ o) s (joined out b d (w ++ x) o (joined out a b w x h i) j) k)) last

  pub line_written : (t n k v w x o s e : List ℕ) → a ≡ out ++ t → b ≡ a ++ n → d ≡ b ++ k → f ≡ d ++ v → OnOk answer (new ≡ f ++ (w ++ x ++ o ++ s ++ e)) → OnOk answer (new ≡ out ++ (t ++ n ++ k ++ v ++ w ++ x ++ o ++ s ++ e))
  line_written t n k v w x o s e h i l m last =
      let before : f ≡ out ++ (t ++ n ++ k ++ v) = joined out d f (t ++ n ++ k) v (joined out b d (t ++ n) k (joined out a b t n h i) l) m in
      on_ok answer (λ written. joined out f new (t ++ n ++ k ++ v) (w ++ x ++ o ++ s ++ e) before written ∙ ap (λ (z : List ℕ). out ++ z) (inside (t ++ n ++ k ++ v) w x o s e)) last
