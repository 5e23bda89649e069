-- A reading takes as many bytes as the spelling of its value has, whatever the bytes are.
use Rattle.std.proofs.Common.{◌≡◌, ◌≤◌, ℕ, zero, suc, ◌+◌, Bool, true, false, cond, ltb, eqb, List, [], ◌∷◌, ◌++◌, length, take, drop, Result, Ok, Err, refl, sym, ap, subst, ◌∙◌, arith, length-append, length-drop}
use Rattle.std.specs.Int.{Width, byte_len, from_le_bytes, to_le_bytes}
use Rattle.std.specs.List.{flat_map}
use Rattle.std.proofs.lemmas.Bool.{ltb-false, eqb-true}
use Rattle.std.proofs.lemmas.List.{length-take}
use Rattle.std.proofs.lemmas.List.Concat.{flat_map-cons}
use Rattle.file_items.specs.Items.{◌>>=◌, Reading, number_at, bytes_at, item, at_start, one_item, repeat, counted, spell_counted, Are, whole}
use Rattle.file_items.proofs.BytesLaws.{bind_ok, test_ok, ok_is, Are-length}

-- the value's spelling has as many bytes as were taken, and the value is good
pub record IsTaken {A : Type 0} (spell : A → List ℕ) (Good : A → Type 0) (bytes : List ℕ) (x : A × List ℕ) : Type 0 where
  pub size : length bytes ≡ length (spell x.0) + length x.1
  pub good : Good x.0

pub record Takes {A : Type 0} (reads : Reading A) (spell : A → List ℕ) (Good : A → Type 0) : Type 0 where
  pub takes : (bytes : List ℕ) (x : A × List ℕ) → reads bytes ≡ Ok x → IsTaken spell Good bytes x

-- ---- so many bytes

abbrev done : {A : Type 0} → A → Result A ℕ
done x = Ok x

cut_ok : {A : Type 0} (b : Bool) (left : ℕ) (made x : A) → cond b (Err left) (done made) ≡ done x → (b ≡ false) × (made ≡ x)
cut_ok true left made x e = absurd cc
cut_ok false left made x e = (refl, ok_is made x e)

pub number_takes : (w : Width) → ((n : ℕ) → length (to_le_bytes w n) ≡ byte_len w) → Takes (number_at w) (to_le_bytes w) (λ n. Unit {0})
number_takes w size = record {
  takes = λ bytes x e.
      let made : ℕ × List ℕ = (from_le_bytes w (take (byte_len w) bytes), drop (byte_len w) bytes) in
      let p = cut_ok (ltb (length bytes) (byte_len w)) (length bytes) made x e in
      let enough : byte_len w ≤ length bytes = ltb-false _ _ p.0 in
      subst (IsTaken (to_le_bytes w) (λ n. Unit {0}) bytes) p.1 (record { size = omega (arith, enough, size made.0, length-drop (byte_len w) bytes); good = tt });
}

pub bytes_take : (n : ℕ) → Takes (bytes_at n) (λ text. text) (λ text. length text ≡ n)
bytes_take n = record {
  takes = λ bytes x e.
      let made : List ℕ × List ℕ = (take n bytes, drop n bytes) in
      let p = cut_ok (ltb (length bytes) n) (length bytes) made x e in
      let enough : n ≤ length bytes = ltb-false _ _ p.0 in
      subst (IsTaken (λ (text : List ℕ). text) (λ (text : List ℕ). length text ≡ n) bytes) p.1
      (record { size = omega (arith, enough, length-take n bytes, length-drop n bytes); good = omega (arith, enough, length-take n bytes) });
}

-- ---- an item with its test, several fields that are one item

pub item_takes : {A : Type 0} (reads : Reading A) (spell : A → List ℕ) (Good : A → Type 0) (test : A → Bool) → Takes reads spell Good
    → Takes (item reads test) spell (λ x. Good x × (test x ≡ true))
item_takes reads spell Good test laws = record {
  takes = λ bytes x e.
      let a = bind_ok (reads bytes) (λ y. cond (test y.0) (Ok y) (Err (length bytes))) x e in
      let g = test_ok (test a.0.0) (length bytes) a.0 x a.2 in
      let t = laws.takes bytes a.0 a.1 in
      subst (IsTaken spell (λ y. Good y × (test y ≡ true)) bytes) g.1 (record { size = t.size; good = (t.good, g.0) });
}

at_start_ok : {A : Type 0} (left : ℕ) (r : Result A ℕ) (x : A) → at_start left r ≡ Ok x → r ≡ Ok x
at_start_ok left (Ok y) x e = e
at_start_ok left (Err inside) x e = absurd cc

pub one_item_takes : {A : Type 0} (reads : Reading A) (spell : A → List ℕ) (Good : A → Type 0) → Takes reads spell Good → Takes (one_item reads) spell Good
one_item_takes reads spell Good laws = record { takes = λ bytes x e. laws.takes bytes x (at_start_ok (length bytes) (reads bytes) x e) }

-- ---- one after the other

pub then_takes : {A B C : Type 0} (reads : Reading A) (spell : A → List ℕ) (Good : A → Type 0) (reads' : A → Reading B) (spell' : A → B → List ℕ) (Good' : A → B → Type 0)
    (make : A → B → C) (fst : C → A) (snd : C → B) → ((a : A) (b : B) → fst (make a b) ≡ a) → ((a : A) (b : B) → snd (make a b) ≡ b)
    → Takes reads spell Good → ((a : A) → Takes (reads' a) (spell' a) (Good' a))
    → Takes (λ bytes. reads bytes >>= λ a. reads' a.0 a.1 >>= λ b. Ok (make a.0 b.0, b.1)) (λ c. spell (fst c) ++ spell' (fst c) (snd c)) (λ c. Good (fst c) × Good' (fst c) (snd c))
then_takes {C = C} reads spell Good reads' spell' Good' make fst snd fst_is snd_is laws laws' = record {
  takes = λ bytes c e.
      let a = bind_ok (reads bytes) (λ a. reads' a.0 a.1 >>= λ b. Ok (make a.0 b.0, b.1)) c e in
      let b = bind_ok (reads' a.0.0 a.0.1) (λ b. Ok (make a.0.0 b.0, b.1)) c a.2 in
      let t = laws.takes bytes a.0 a.1 in
      let t' = (laws' a.0.0).takes a.0.1 b.0 b.1 in
      let made : C × List ℕ = (make a.0.0 b.0.0, b.0.1) in
      let size : length bytes ≡ length (spell a.0.0 ++ spell' a.0.0 b.0.0) + length b.0.1 = omega (arith, t.size, t'.size, length-append (spell a.0.0) (spell' a.0.0 b.0.0)) in
      subst (IsTaken (λ (c : C). spell (fst c) ++ spell' (fst c) (snd c)) (λ (c : C). Good (fst c) × Good' (fst c) (snd c)) bytes) (ok_is made c b.2)
      (record { size = rw (fst_is a.0.0 b.0.0, snd_is a.0.0 b.0.0) size; good = rw (fst_is a.0.0 b.0.0, snd_is a.0.0 b.0.0) (t.good, t'.good) });
}

-- ---- the value seen otherwise

pub seen_takes : {A C : Type 0} (reads : Reading A) (spell : A → List ℕ) (Good : A → Type 0) (make : A → C) (back : C → A) → ((a : A) → back (make a) ≡ a)
    → Takes reads spell Good → Takes (λ bytes. reads bytes >>= λ a. Ok (make a.0, a.1)) (λ c. spell (back c)) (λ c. Good (back c))
seen_takes {C = C} reads spell Good make back back_is laws = record {
  takes = λ bytes c e.
      let a = bind_ok (reads bytes) (λ a. Ok (make a.0, a.1)) c e in
      let t = laws.takes bytes a.0 a.1 in
      let made : C × List ℕ = (make a.0.0, a.0.1) in
      subst (IsTaken (λ (c : C). spell (back c)) (λ (c : C). Good (back c)) bytes) (ok_is made c a.2)
      (record { size = rw (back_is a.0.0) t.size; good = rw (back_is a.0.0) t.good });
}

-- ---- many of a kind

repeat_taken : {S A : Type 0} (one : S → ℕ → Reading A) (next : S → A → S) (spell : A → List ℕ) (Good : S → ℕ → A → Type 0) (laws : (so_far : S) (n : ℕ) → Takes (one so_far n) spell (Good so_far n))
    (n : ℕ) (so_far : S) (bytes : List ℕ) (x : List A × List ℕ) → repeat one next n so_far bytes ≡ Ok x → IsTaken (flat_map spell) (Are Good next n so_far) bytes x
unfolding repeat Are
repeat_taken {A = A} one next spell Good laws zero so_far bytes x e =
    let none : List A × List ℕ = ([], bytes) in
    subst (IsTaken (flat_map spell) (Are Good next 0 so_far) bytes) {x = none} (ok_is none x e) (record { size = omega arith; good = tt })
repeat_taken {A = A} one next spell Good laws (suc n) so_far bytes x e =
    let a = bind_ok (one so_far n bytes) (λ first. repeat one next n (next so_far first.0) first.1 >>= λ others. Ok (first.0 ∷ others.0, others.1)) x e in
    let b = bind_ok (repeat one next n (next so_far a.0.0) a.0.1) (λ others. Ok (a.0.0 ∷ others.0, others.1)) x a.2 in
    let t = (laws so_far n).takes bytes a.0 a.1 in
    let t' = repeat_taken one next spell Good laws n (next so_far a.0.0) a.0.1 b.0 b.1 in
    let made : List A × List ℕ = (a.0.0 ∷ b.0.0, b.0.1) in
    let spelled : length (flat_map spell (a.0.0 ∷ b.0.0)) ≡ length (spell a.0.0) + length (flat_map spell b.0.0) =
    ap (λ (w : List ℕ). length w) (flat_map-cons spell a.0.0 b.0.0) ∙ length-append (spell a.0.0) (flat_map spell b.0.0) in
    subst (IsTaken (flat_map spell) (Are Good next (suc n) so_far) bytes) {x = made} (ok_is made x b.2) (record { size = omega (arith, t.size, t'.size, spelled); good = (t.good, t'.good) })

pub repeat_takes : {S A : Type 0} (one : S → ℕ → Reading A) (next : S → A → S) (spell : A → List ℕ) (Good : S → ℕ → A → Type 0) → ((so_far : S) (n : ℕ) → Takes (one so_far n) spell (Good so_far n))
    → (n : ℕ) (so_far : S) → Takes (repeat one next n so_far) (flat_map spell) (Are Good next n so_far)
repeat_takes one next spell Good laws n so_far = record { takes = repeat_taken one next spell Good laws n so_far }

-- as many as are said, a number that passes its test
pub record AreMany {S A : Type 0} (test : ℕ → Bool) (Good : S → ℕ → A → Type 0) (next : S → A → S) (so_far : S) (xs : List A) : Type 0 where
  pub count : test (length xs) ≡ true
  pub each : Are Good next (length xs) so_far xs

pub counted_takes : {S A : Type 0} (w : Width) → ((n : ℕ) → length (to_le_bytes w n) ≡ byte_len w) → (test : ℕ → Bool) (one : S → ℕ → Reading A) (next : S → A → S) (spell : A → List ℕ) (Good : S → ℕ → A → Type 0)
    → ((so_far : S) (n : ℕ) → Takes (one so_far n) spell (Good so_far n)) → (so_far : S) → Takes (counted w test one next so_far) (spell_counted w spell) (AreMany test Good next so_far)
counted_takes {A = A} w size test one next spell Good laws so_far = record {
  takes = λ bytes x e.
      let a = bind_ok (item (number_at w) test bytes) (λ count. repeat one next count.0 so_far count.1) x e in
      let t = (item_takes (number_at w) (to_le_bytes w) (λ n. Unit {0}) test (number_takes w size)).takes bytes a.0 a.1 in
      let t' = repeat_taken one next spell Good laws a.0.0 so_far a.0.1 x a.2 in
      let many : length x.0 ≡ a.0.0 = Are-length Good next a.0.0 so_far x.0 t'.good in
      let said = size a.0.0 in
      let spelled = size (length x.0) in
      record {
        size = omega (arith, t.size, t'.size, said, spelled, length-append (to_le_bytes w (length x.0)) (flat_map spell x.0));
        good = record {
          count = subst (λ (n : ℕ). test n ≡ true) (sym many) t.good.1;
          each = subst (λ (n : ℕ). Are Good next n so_far x.0) (sym many) t'.good;
        };
      };
}

-- ---- all of the bytes

pub whole_taken : {A : Type 0} (reads : Reading A) (spell : A → List ℕ) (Good : A → Type 0) → Takes reads spell Good → (bytes : List ℕ) (x : A) → whole reads bytes ≡ Ok x → (length bytes ≡ length (spell x)) × Good x
whole_taken {A = A} reads spell Good laws bytes x e =
    let a = bind_ok (reads bytes) (λ y. cond (eqb (length y.1) 0) (Ok y.0) (Err (length y.1))) x e in
    let g = test_ok (eqb (length a.0.1) 0) (length a.0.1) a.0.0 x a.2 in
    let t = laws.takes bytes a.0 a.1 in
    let nothing : length a.0.1 ≡ 0 = eqb-true _ _ g.0 in
    let size : length bytes ≡ length (spell a.0.0) = omega (arith, nothing, t.size) in
    subst (λ (y : A). (length bytes ≡ length (spell y)) × Good y) g.1 (size, t.good)
