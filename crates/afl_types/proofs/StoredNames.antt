-- What the names of the stored arrays tell about the array of a name.
use Rattle.std.proofs.Common.{◌≡◌, ℕ, Bool, true, false, cond, not, ◌||◌, Option, Some, None, List, [], ◌∷◌, map, refl, sym, ap, subst, ◌∙◌}
use Rattle.std.specs.Prelude.{nat_lt}
use Rattle.std.specs.List.{AllByRecursion, find, list_all, list_any}
use Rattle.std.specs.Ordering.{nat_cmp, is_lt, ordering_reverse}
use Rattle.std.specs.Cmp.Lexicographic.{slice_cmp}
use Rattle.std.specs.Str.{bytes_eq}
use Rattle.std.specs.declared.cmp.Ordering.{Ordering}
use Rattle.std.specs.declared.cmp.Ordering.TheVariants.{Less, Equal, Greater}
use Rattle.std.proofs.lemmas.Bool.{and_from, or_left, or_right, false_from_ne_true}
use Rattle.std.proofs.lemmas.Cmp.{nat_list_cmp_total}
use Rattle.afl_lexer.proofs.Words.{same_bytes}
use Rattle.logical_plan.specs.declared.names.NameEntry.{NameEntry}
use Rattle.plan_changes.specs.Allowed.{has_number}
use Rattle.plan_changes.specs.Changes.{entry_named, has_array, is_named}
use Rattle.plan_changes.specs.Stored.{is_before, NamesRise, IsStored}
use Rattle.afl_types.specs.Arrays.{AreValid}

pub schemas_valid : (es : List NameEntry) → AllByRecursion IsStored es → AreValid es
schemas_valid [] all = tt
schemas_valid (e ∷ es) all = (all.0.schema, schemas_valid es all.1)

-- ---- whether some array has the name

module _ {A : Type 0} (p : A → Bool) where
  there_at : (b : Bool) (x : A) (xs : List A) (rest : Option A) (y : A) → p x ≡ b → cond b (Some x) rest ≡ Some y → (rest ≡ Some y → list_any p xs ≡ true) → list_any p (x ∷ xs) ≡ true
  there_at true x xs rest y is e later = or_left (p x) (list_any p xs) is
  there_at false x xs rest y is e later = or_right (p x) (list_any p xs) (later e)

  found_there : (xs : List A) (y : A) → find p xs ≡ Some y → list_any p xs ≡ true
  found_there [] y e = absurd (let no : None ≡ Some y = e in cc)
  found_there (x ∷ xs) y e = there_at (p x) x xs (find p xs) y refl e (λ later. found_there xs y later)

pub has_found : (arrays : List NameEntry) (name : List ℕ) (entry : NameEntry) → entry_named arrays name ≡ Some entry → has_array arrays name ≡ true
has_found arrays name entry e = found_there (is_named name) arrays entry e

-- ---- numbers of next versions

-- where no array has the name, each has a number if it has the name
none_at : (name : List ℕ) (b : Bool) (e : NameEntry) (es : List NameEntry) (rest : Option NameEntry) → is_named name e ≡ b → cond b (Some e) rest ≡ None → (rest ≡ None → list_all (has_number name) es ≡ true)
    → list_all (has_number name) (e ∷ es) ≡ true
none_at name true e es rest is none later = absurd cc
none_at name false e es rest is none later =
    and_from (has_number name e) (list_all (has_number name) es) (ap (λ (t : Bool). not t || nat_lt e.next 65536) is) (later none)

pub none_numbered : (name : List ℕ) (es : List NameEntry) → entry_named es name ≡ None → list_all (has_number name) es ≡ true
none_numbered name [] none = refl
none_numbered name (e ∷ es) none = none_at name (is_named name e) e es (entry_named es name) refl none (λ later. none_numbered name es later)

lt_is : (o : Ordering) → is_lt o ≡ true → o ≡ Less
lt_is Less e = refl
lt_is Equal e = absurd cc
lt_is Greater e = absurd cc

before_trans : (a b c : List ℕ) → is_before a b ≡ true → is_before b c ≡ true → is_before a c ≡ true
before_trans a b c p q = ap is_lt (nat_list_cmp_total.trans a b c (lt_is (slice_cmp nat_cmp a b) p) (lt_is (slice_cmp nat_cmp b c) q))

-- a name that comes before another differs from it
apart : (a b : List ℕ) → is_before a b ≡ true → bytes_eq b a ≡ false
apart a b before = false_from_ne_true (bytes_eq b a) (λ same. never (subst (λ (c : List ℕ). is_before a c ≡ true) (same_bytes b a same) before))
  where
    never : is_before a a ≡ true → ⊥
    never e =
        let less : slice_cmp nat_cmp a a ≡ Less = lt_is (slice_cmp nat_cmp a a) e in
        let no : Less ≡ Greater = sym less ∙ nat_list_cmp_total.antisymm a a ∙ ap ordering_reverse less in
        cc

-- names that rise behind one
behind : (name : List ℕ) (e : NameEntry) (es : List NameEntry) → is_before name e.name ≡ true → NamesRise (map (λ (x : NameEntry). x.name) (e ∷ es)) → NamesRise (name ∷ map (λ (x : NameEntry). x.name) es)
behind name e [] before rise = tt
behind name e (f ∷ es) before rise = (before_trans name e.name f.name before rise.0, rise.1)

-- none of them has that name
none_behind : (name : List ℕ) (es : List NameEntry) → NamesRise (name ∷ map (λ (x : NameEntry). x.name) es) → list_all (has_number name) es ≡ true
none_behind name [] rise = refl
none_behind name (e ∷ es) rise =
    and_from (has_number name e) (list_all (has_number name) es) (ap (λ (t : Bool). not t || nat_lt e.next 65536) (apart name e.name rise.0)) (none_behind name es (behind name e es rise.0 rise.1))

tail_rises : (e : NameEntry) (es : List NameEntry) → NamesRise (map (λ (x : NameEntry). x.name) (e ∷ es)) → NamesRise (map (λ (x : NameEntry). x.name) es)
tail_rises e [] rise = tt
tail_rises e (f ∷ es) rise = rise.1

one_at : (name : List ℕ) (b : Bool) (e : NameEntry) (es : List NameEntry) (rest : Option NameEntry) (entry : NameEntry) → NamesRise (map (λ (x : NameEntry). x.name) (e ∷ es)) → is_named name e ≡ b → cond b (Some e) rest ≡ Some entry
    → nat_lt entry.next 65536 ≡ true → (rest ≡ Some entry → list_all (has_number name) es ≡ true) → list_all (has_number name) (e ∷ es) ≡ true
one_at name true e es rest entry rise is found number later =
    let same : e ≡ entry = cc in
    let below : nat_lt e.next 65536 ≡ true = subst (λ (x : NameEntry). nat_lt x.next 65536 ≡ true) (sym same) number in
    let others : list_all (has_number e.name) es ≡ true = none_behind e.name es rise in
    and_from (has_number name e) (list_all (has_number name) es) (or_right (not (is_named name e)) (nat_lt e.next 65536) below)
    (subst (λ (n : List ℕ). list_all (has_number n) es ≡ true) (same_bytes e.name name is) others)
one_at name false e es rest entry rise is found number later =
    and_from (has_number name e) (list_all (has_number name) es) (ap (λ (t : Bool). not t || nat_lt e.next 65536) is) (later found)

-- only one array has the name, so that its number is the only one that is asked for
pub found_numbered : (name : List ℕ) (es : List NameEntry) (entry : NameEntry) → NamesRise (map (λ (x : NameEntry). x.name) es) → entry_named es name ≡ Some entry → nat_lt entry.next 65536 ≡ true → list_all (has_number name) es ≡ true
found_numbered name [] entry rise found number = refl
found_numbered name (e ∷ es) entry rise found number =
    one_at name (is_named name e) e es (entry_named es name) entry rise refl found number (λ later. found_numbered name es entry (tail_rises e es rise) later number)
