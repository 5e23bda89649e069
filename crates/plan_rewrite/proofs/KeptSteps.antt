-- Items that are kept one after another.
use Rattle.std.proofs.Common.{◌≡◌, ℕ, ◌+◌, ◌-◌, ◌<◌, ◌≤◌, Bool, true, false, List, [], ◌∷◌, ◌++◌, cond, length, take, drop, get_or, append-nil}
use Rattle.std.proofs.Common.{append_assoc, Result, Ok, Err, refl, sym, ap, ◌∙◌, arith}
use Rattle.std.specs.Result.{OnOk}
use Rattle.std.proofs.lemmas.List.{take_all}
use Rattle.plan_rewrite.specs.Inner.Trimmed.{kept, lowered, relocated}
use Rattle.plan_rewrite.specs.Settled.{is_named}

-- the other items, as a function reads them from the front
abbrev rest : {A : Type 0} → List A → List A
rest xs = take (length xs - 1) (drop 1 xs)

rest_is : {A : Type 0} (x : A) (xs : List A) → rest (x ∷ xs) ≡ xs
rest_is x xs = take_all (length (x ∷ xs) - 1) xs (omega arith)

pub on_ok : {X E P : Type 0} (r : Result X E) → P → OnOk r P
on_ok (Ok x) p = p
on_ok (Err e) p = tt

pub kept_none : {A : Type 0} (k : ℕ) (items old : List A) (places : List ℕ) → length items < 1 → old ≡ old ++ kept k items places
kept_none k [] old places none = sym (append-nil old)
kept_none k (x ∷ items) old places none = absurd (omega (arith, none))

pub relocated_none : {A : Type 0} (k : ℕ) (items : List A) (places : List ℕ) → length items < 1 → places ≡ relocated k items places
relocated_none k [] places none = refl
relocated_none k (x ∷ items) places none = absurd (omega (arith, none))

kept_on : {A : Type 0} (named : Bool) (k : ℕ) (x : A) (items : List A) (places : List ℕ)
    → cond named (x ∷ []) [] ++ kept (cond named (k + 1) k) items (cond named places (lowered k places))
    ≡ cond named (x ∷ kept (k + 1) items places) (kept k items (lowered k places))
kept_on true k x items places = refl
kept_on false k x items places = refl

relocated_on : {A : Type 0} (named : Bool) (k : ℕ) (items : List A) (places : List ℕ)
    → relocated (cond named (k + 1) k) items (cond named places (lowered k places))
    ≡ cond named (relocated (k + 1) items places) (relocated k items (lowered k places))
relocated_on true k items places = refl
relocated_on false k items places = refl

pub kept_more : {A : Type 0} (k next : ℕ) (x : A) (items old mid new : List A) (places between : List ℕ) → 1 ≤ length items → x ≡ get_or items 0 x
    → mid ≡ old ++ kept k (x ∷ []) places → between ≡ relocated k (x ∷ []) places → next ≡ cond (is_named k places) (k + 1) k
    → new ≡ mid ++ kept next (rest items) between → new ≡ old ++ kept k items places
kept_more k next x [] old mid new places between some first m b n e = absurd (omega (arith, some))
kept_more {A = A} k next x (y ∷ items) old mid new places between some first m b n e =
    let one : List A = kept k (x ∷ []) places in
    e ∙ ap (λ (l : List A). l ++ kept next (rest (y ∷ items)) between) m ∙ append_assoc old one (kept next (rest (y ∷ items)) between)
    ∙ ap (λ (l : List A). old ++ (one ++ kept next l between)) (rest_is y items)
    ∙ ap (λ (n : ℕ). old ++ (one ++ kept n items between)) n
    ∙ ap (λ (ps : List ℕ). old ++ (one ++ kept (cond (is_named k places) (k + 1) k) items ps)) b
    ∙ ap (λ (z : A). old ++ (kept k (z ∷ []) places ++ kept (cond (is_named k places) (k + 1) k) items (relocated k (x ∷ []) places))) first
    ∙ ap (λ (l : List A). old ++ l) (kept_on (is_named k places) k y items places)

pub relocated_more : {A : Type 0} (k next : ℕ) (x : A) (items : List A) (places between new : List ℕ) → 1 ≤ length items
    → between ≡ relocated k (x ∷ []) places → next ≡ cond (is_named k places) (k + 1) k
    → new ≡ relocated next (rest items) between → new ≡ relocated k items places
relocated_more k next x [] places between new some b n e = absurd (omega (arith, some))
relocated_more {A = A} k next x (y ∷ items) places between new some b n e =
    e ∙ ap (λ (l : List A). relocated next l between) (rest_is y items) ∙ ap (λ (n : ℕ). relocated n items between) n
    ∙ ap (λ (ps : List ℕ). relocated (cond (is_named k places) (k + 1) k) items ps) b
    ∙ relocated_on (is_named k places) k items places
