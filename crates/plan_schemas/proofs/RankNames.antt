-- The name of the rank of an attribute is a name.
use Rattle.std.proofs.Common.{◌≡◌, ℕ, zero, suc, ◌≤◌, Bool, true, false, not, ◌&&◌, ◌||◌, ◌==◌, List, [], ◌∷◌, ◌++◌, length, take, codes, refl, ap, subst, ◌∙◌, arith}
use Rattle.std.specs.Prelude.{nat_le}
use Rattle.std.specs.List.{list_any, list_all}
use Rattle.std.specs.Str.{bytes_eq}
use Rattle.std.proofs.lemmas.Bool.{and_parts, and_from, le-leb}
use Rattle.std.proofs.lemmas.List.{length-append, length-take}
use Rattle.std.proofs.lemmas.List.Folds.{list_all-append}
use Rattle.std.proofs.lemmas.Slice.Eq.{bytes_eq-Decides}
use Rattle.cell_values.specs.Naming.{is_name, begins_well, is_word_byte, is_reserved, reserved}
use Rattle.logical_plan.specs.PlanSchema.{rank_name}

-- no reserved word has `_` or seven bytes
abbrev is_apart : List ℕ → Bool
is_apart w = nat_le 7 (length w) || list_any (λ b. b == 95) w

apart : (b : Bool) (w r : List ℕ) → bytes_eq w r ≡ b → is_apart w ≡ true → is_apart r ≡ false → b ≡ false
apart false w r e h n = refl
apart true w r e h n =
    let same : w ≡ r = (bytes_eq-Decides w r).0 e in
    let again : is_apart r ≡ true = subst (λ (x : List ℕ). is_apart x ≡ true) same h in
    cc

not_true : (b : Bool) → not b ≡ true → b ≡ false
not_true false e = refl
not_true true e = cc

none_of : (w : List ℕ) (rs : List (List ℕ)) → is_apart w ≡ true → list_all (λ r. not (is_apart r)) rs ≡ true → list_any (bytes_eq w) rs ≡ false
none_of w [] h n = refl
none_of w (r ∷ rs) h n =
    let p = and_parts (not (is_apart r)) (list_all (λ x. not (is_apart x)) rs) n in
    ap (λ b. b || list_any (bytes_eq w) rs) (apart (bytes_eq w r) w r refl h (not_true (is_apart r) p.0)) ∙ none_of w rs h p.1

or_true : (a b : Bool) → b ≡ true → (a || b) ≡ true
or_true true b e = refl
or_true false b e = e

all_taken : (n : ℕ) (bytes : List ℕ) → list_all is_word_byte bytes ≡ true → list_all is_word_byte (take n bytes) ≡ true
all_taken zero bytes e = refl
all_taken (suc n) [] e = refl
all_taken (suc n) (b ∷ bytes) e =
    let p = and_parts (is_word_byte b) (list_all is_word_byte bytes) e in
    and_from (is_word_byte b) (list_all is_word_byte (take n bytes)) p.0 (all_taken n bytes p.1)

or_left : (a b : Bool) → a ≡ true → (a || b) ≡ true
or_left true b e = refl
or_left false b e = cc

long_apart : (bytes : List ℕ) → 7 ≤ length bytes → is_apart (take 64 bytes) ≡ true
long_apart bytes h =
    or_left (nat_le 7 (length (take 64 bytes))) (list_any (λ b. b == 95) (take 64 bytes)) (le-leb 7 (length (take 64 bytes)) (omega (arith, length-take 64 bytes, h)))

stands_apart : (name : List ℕ) → begins_well name ≡ true → is_apart (rank_name name) ≡ true
stands_apart [] e = cc
stands_apart (b ∷ []) e = or_true (b == 95) true refl
stands_apart (b ∷ c ∷ name) e = long_apart ((b ∷ c ∷ name) ++ codes "_rank") (omega (arith, length-append (b ∷ c ∷ name) (codes "_rank")))

begun : (name : List ℕ) → begins_well name ≡ true → begins_well (rank_name name) ≡ true
begun [] e = cc
begun (b ∷ name) e = e

all_four : (a b c d : Bool) → a ≡ true → b ≡ true → c ≡ true → d ≡ false → (a && b && c && not d) ≡ true
all_four a b c d p q r n = and_from (a && b && c) (not d) (and_from (a && b) c (and_from a b p q) r) (ap not n)

pub rank_is_name : (name : List ℕ) → is_name name ≡ true → is_name (rank_name name) ≡ true
rank_is_name name n =
    let p = and_parts (nat_le (length name) 64 && begins_well name && list_all is_word_byte name) (not (is_reserved name)) n in
    let q = and_parts (nat_le (length name) 64 && begins_well name) (list_all is_word_byte name) p.0 in
    let r = and_parts (nat_le (length name) 64) (begins_well name) q.0 in
    let whole = name ++ codes "_rank" in
    all_four (nat_le (length (rank_name name)) 64) (begins_well (rank_name name)) (list_all is_word_byte (rank_name name)) (is_reserved (rank_name name))
    (le-leb (length (rank_name name)) 64 (omega (arith, length-take 64 whole))) (begun name r.1)
    (all_taken 64 whole (list_all-append is_word_byte name (codes "_rank") ∙ and_from (list_all is_word_byte name) true q.1 refl))
    (none_of (rank_name name) reserved (stands_apart name r.1) refl)
