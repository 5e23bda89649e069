-- A name with an ending is a name, but for its length.
use Rattle.std.proofs.Common.{◌≡◌, ℕ, Bool, true, false, not, ◌&&◌, ◌||◌, ◌==◌, List, [], ◌∷◌, ◌++◌, length, refl, ap, subst, ◌∙◌}
use Rattle.std.specs.Prelude.{nat_le}
use Rattle.std.specs.List.{list_any, list_all}
use Rattle.std.specs.Str.{bytes_eq}
use Rattle.std.proofs.lemmas.Bool.{and_parts, and_from, eqb-true}
use Rattle.std.proofs.lemmas.List.Folds.{list_any-append, list_all-append}
use Rattle.std.proofs.lemmas.Slice.Eq.{bytes_eq-Decides}
use Rattle.cell_values.specs.Naming.{is_name, begins_well, is_word_byte, is_reserved, reserved}
use Rattle.check_groups.specs.Names.{is_ending}

abbrev has_bar : List ℕ → Bool
has_bar = list_any (λ b. b == 95)

apart : (b : Bool) (w r : List ℕ) → bytes_eq w r ≡ b → has_bar w ≡ true → has_bar r ≡ false → b ≡ false
apart false w r e h n = refl
apart true w r e h n =
    let same : w ≡ r = (bytes_eq-Decides w r).0 e in
    let again : has_bar r ≡ true = subst (λ (x : List ℕ). has_bar x ≡ true) same h in
    cc

not_true : (b : Bool) → not b ≡ true → b ≡ false
not_true false e = refl
not_true true e = cc

none_of : (w : List ℕ) (rs : List (List ℕ)) → has_bar w ≡ true → list_all (λ r. not (has_bar r)) rs ≡ true → list_any (bytes_eq w) rs ≡ false
none_of w [] h n = refl
none_of w (r ∷ rs) h n =
    let p = and_parts (not (has_bar r)) (list_all (λ x. not (has_bar x)) rs) n in
    ap (λ b. b || list_any (bytes_eq w) rs) (apart (bytes_eq w r) w r refl h (not_true (has_bar r) p.0)) ∙ none_of w rs h p.1

or_true : (a b : Bool) → b ≡ true → (a || b) ≡ true
or_true true b e = refl
or_true false b e = e

barred : (name ending : List ℕ) → is_ending ending ≡ true → has_bar (name ++ ending) ≡ true
barred name [] e = cc
barred name (b ∷ bytes) e =
    let p = and_parts (b == 95) (list_all is_word_byte bytes) e in
    list_any-append (λ x. x == 95) name (b ∷ bytes) ∙ or_true (has_bar name) (has_bar (b ∷ bytes)) (ap (λ t. t || has_bar bytes) p.0)

word_ending : (ending : List ℕ) → is_ending ending ≡ true → list_all is_word_byte ending ≡ true
word_ending [] e = cc
word_ending (b ∷ bytes) e =
    let p = and_parts (b == 95) (list_all is_word_byte bytes) e in
    let is : b ≡ 95 = eqb-true b 95 p.0 in
    and_from (is_word_byte b) (list_all is_word_byte bytes) (ap is_word_byte is) p.1

begun : (name ending : List ℕ) → begins_well name ≡ true → begins_well (name ++ ending) ≡ true
begun [] ending e = cc
begun (b ∷ name) ending e = e

length_only : (l b w r : Bool) → b ≡ true → w ≡ true → r ≡ false → (l && b && w && not r) ≡ l
length_only true b w r p q e = and_from (b && w) (not r) (and_from b w p q) (ap not e)
length_only false b w r p q e = refl

pub longer_name : (name ending : List ℕ) → is_name name ≡ true → is_ending ending ≡ true → is_name (name ++ ending) ≡ nat_le (length (name ++ ending)) 64
longer_name name ending n e =
    let l = nat_le (length name) 64 in
    let p = and_parts (l && begins_well name && list_all is_word_byte name) (not (is_reserved name)) n in
    let q = and_parts (l && begins_well name) (list_all is_word_byte name) p.0 in
    let r = and_parts l (begins_well name) q.0 in
    length_only (nat_le (length (name ++ ending)) 64) (begins_well (name ++ ending)) (list_all is_word_byte (name ++ ending)) (is_reserved (name ++ ending))
    (begun name ending r.1)
    (list_all-append is_word_byte name ending ∙ and_from (list_all is_word_byte name) (list_all is_word_byte ending) q.1 (word_ending ending e))
    (none_of (name ++ ending) reserved (barred name ending e) refl)
