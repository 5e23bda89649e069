-- A change that the names allow leaves names that rise.
use Rattle.std.proofs.Common.{◌≡◌, ℕ, zero, suc, ◌+◌, ◌<◌, ◌≤◌, Bool, true, false, cond, not, ◌&&◌, ◌||◌, nat_lt, List, [], ◌∷◌, ◌++◌, map, length, refl, sym, ap, subst, ◌∙◌, arith}
use Rattle.std.specs.List.{AllByRecursion, filter, insert, list_all}
use Rattle.std.specs.Ordering.{nat_cmp, is_lt, is_eq, ordering_reverse}
use Rattle.std.specs.Cmp.Lexicographic.{slice_cmp}
use Rattle.std.specs.Str.{bytes_eq}
use Rattle.std.specs.declared.cmp.Ordering.{Ordering}
use Rattle.std.specs.declared.cmp.Ordering.TheVariants.{Less, Equal, Greater}
use Rattle.std.proofs.lemmas.Bool.{and_parts, or_parts, not-true, ltb-true}
use Rattle.std.proofs.lemmas.Cmp.{nat_list_cmp_total}
use Rattle.std.proofs.lemmas.List.Edits.{length-insert}
use Rattle.std.proofs.lemmas.List.Sums.{prefix_len-le-length}
use Rattle.std.proofs.lemmas.Map.Text.{is_eq-slice_cmp}
use Rattle.expr_nulls.specs.Naming.{IsName}
use Rattle.expr_nulls.specs.Schemas.{is_valid}
use Rattle.expr_nulls.specs.Schema.{Schema}
use Rattle.logical_plan.specs.declared.names.NameEntry.{NameEntry}
use Rattle.plan_changes.specs.declared.change.Change.TheVariants.{Create, Store, Insert, Remove, RemoveVersions}
use Rattle.plan_changes.specs.Allowed.{has_room, has_number}
use Rattle.plan_changes.specs.Changes.{is_named, has_array, place_of, new_entry, with_array, with_version, without_below}
use Rattle.plan_changes.proofs.Maps.{all_inserted as all_pass_inserted}
use Rattle.plan_changes.specs.Stored.{is_before, NamesRise, RiseBetween, HasNames, IsStored, AreStored, ChangesKeepNames}

abbrev pub names_in : List NameEntry → List (List ℕ)
names_in = map (λ entry. entry.name)

-- ---- names in order

pub lt_is : (o : Ordering) → is_lt o ≡ true → o ≡ Less
lt_is Less e = refl
lt_is Equal e = absurd cc
lt_is Greater e = absurd cc

pub before_trans : (a b c : List ℕ) → is_before a b ≡ true → is_before b c ≡ true → is_before a c ≡ true
before_trans a b c p q = ap is_lt (nat_list_cmp_total.trans a b c (lt_is (slice_cmp nat_cmp a b) p) (lt_is (slice_cmp nat_cmp b c) q))

-- of two different names one comes before the other
other_way : (o p : Ordering) → p ≡ ordering_reverse o → is_lt o ≡ false → (o ≡ Equal → ⊥) → is_lt p ≡ true
other_way Less p r l e = absurd cc
other_way Equal p r l e = absurd (e refl)
other_way Greater p r l e = ap is_lt r

differ : (a b : List ℕ) → bytes_eq a b ≡ false → slice_cmp nat_cmp a b ≡ Equal → ⊥
differ a b e same =
    let equal : bytes_eq a b ≡ true = sym (is_eq-slice_cmp a b) ∙ ap (λ (o : Ordering). is_eq o) same in
    cc

behind_it : (a b : List ℕ) → is_before a b ≡ false → bytes_eq a b ≡ false → is_before b a ≡ true
behind_it a b l e = other_way (slice_cmp nat_cmp a b) (slice_cmp nat_cmp b a) (nat_list_cmp_total.antisymm b a) l (differ a b e)

-- ---- one more array

rise_behind : (x : NameEntry) (e : NameEntry) (es : List NameEntry) → is_before x.name e.name ≡ true → NamesRise (names_in (e ∷ es)) → NamesRise (names_in (x ∷ e ∷ es))
rise_behind x e es l h = (l, h)

pub tail_rises : (e : NameEntry) (es : List NameEntry) → NamesRise (names_in (e ∷ es)) → NamesRise (names_in es)
tail_rises e [] h = tt
tail_rises e (f ∷ es) h = h.1

-- put in place: first (before) the array `e`, then behind it
place_step : (name : List ℕ) (x e : NameEntry) (es : List NameEntry) (b : Bool) → is_before e.name name ≡ b → insert (e ∷ es) (place_of (e ∷ es) name) x ≡ cond b (e ∷ insert es (place_of es name) x) (x ∷ e ∷ es)
place_step name x e es true l =
    let first : place_of (e ∷ es) name ≡ suc (place_of es name) = ap (λ (t : Bool). cond t (1 + place_of es name) 0) l ∙ omega arith in
    ap (λ (i : ℕ). insert (e ∷ es) i x) first
place_step name x e es false l =
    let first : place_of (e ∷ es) name ≡ 0 = ap (λ (t : Bool). cond t (1 + place_of es name) 0) l in
    ap (λ (i : ℕ). insert (e ∷ es) i x) first

-- the names that rise behind one
abbrev pub RiseAfter : List ℕ → List NameEntry → Type 0
RiseAfter name es = NamesRise (name ∷ names_in es)

after_by : (name : List ℕ) (x : NameEntry) (prev : List ℕ) (e : NameEntry) (es : List NameEntry) → x.name ≡ name → is_before prev name ≡ true → RiseAfter prev (e ∷ es) → bytes_eq e.name name ≡ false
    → (is_before e.name name ≡ true → RiseAfter e.name (insert es (place_of es name) x)) → (b : Bool) → is_before e.name name ≡ b → RiseAfter prev (insert (e ∷ es) (place_of (e ∷ es) name) x)
after_by name x prev e es same l h apart later true b_is =
    subst (λ (all : List NameEntry). RiseAfter prev all) (sym (place_step name x e es true b_is)) (h.0, later b_is)
after_by name x prev e es same l h apart later false b_is =
    subst (λ (all : List NameEntry). RiseAfter prev all) (sym (place_step name x e es false b_is)) (rw same l, (rw same (behind_it e.name name b_is apart), h.1))

after_one : (name : List ℕ) (x : NameEntry) (prev : List ℕ) (es : List NameEntry) → x.name ≡ name → is_before prev name ≡ true → has_array es name ≡ false → RiseAfter prev es → RiseAfter prev (insert es (place_of es name) x)
after_one name x prev [] same l none h = (rw same l, tt)
after_one name x prev (e ∷ es) same l none h =
    let n = or_parts (bytes_eq e.name name) (has_array es name) none in
    after_by name x prev e es same l h n.0 (λ l'. after_one name x e.name es same l' n.1 h.1) (is_before e.name name) refl

rise_by : (name : List ℕ) (x : NameEntry) (e : NameEntry) (es : List NameEntry) → x.name ≡ name → NamesRise (names_in (e ∷ es)) → bytes_eq e.name name ≡ false → has_array es name ≡ false
    → (b : Bool) → is_before e.name name ≡ b → NamesRise (names_in (insert (e ∷ es) (place_of (e ∷ es) name) x))
rise_by name x e es same h apart rest true b_is =
    subst (λ (all : List NameEntry). NamesRise (names_in all)) (sym (place_step name x e es true b_is)) (after_one name x e.name es same b_is rest h)
rise_by name x e es same h apart rest false b_is =
    subst (λ (all : List NameEntry). NamesRise (names_in all)) (sym (place_step name x e es false b_is)) (rw same (behind_it e.name name b_is apart), h)

rise_more : (name : List ℕ) (x : NameEntry) (es : List NameEntry) → x.name ≡ name → has_array es name ≡ false → NamesRise (names_in es) → NamesRise (names_in (insert es (place_of es name) x))
rise_more name x [] same none h = tt
rise_more name x (e ∷ es) same none h =
    let n = or_parts (bytes_eq e.name name) (has_array es name) none in
    rise_by name x e es same h n.0 n.1 (is_before e.name name) refl

pub all_inserted : {A : Type 0} (P : A → Type 0) (x : A) (es : List A) (i : ℕ) → P x → AllByRecursion P es → AllByRecursion P (insert es i x)
all_inserted P x [] zero px all = (px, tt)
all_inserted P x [] (suc i) px all = (px, tt)
all_inserted P x (e ∷ es) zero px all = (px, all)
all_inserted P x (e ∷ es) (suc i) px all = (all.0, all_inserted P x es i px all.1)

pub add_array : (name : List ℕ) (schema : Schema) (es : List NameEntry) → IsName name → HasNames schema → is_valid schema ≡ true → has_room es ≡ true → has_array es name ≡ false
    → AreStored (record { arrays = es }) → AreStored (record { arrays = with_array name schema es })
add_array name schema es named of_names valid room none h =
    let below : length es < 1024 = ltb-true (length es) 1024 room in
    let more : length (with_array name schema es) ≡ length es + 1 = length-insert es (place_of es name) (new_entry name schema) (prefix_len-le-length (λ entry. is_before entry.name name) es) in
    record {
      count = omega (arith, below, more);
      rising = rise_more name (new_entry name schema) es refl none h.rising;
      each = all_inserted IsStored (new_entry name schema) es (place_of es name) (record { name = named; schema = valid; named = of_names; next = (omega arith, omega arith); versions = tt }) h.each;
    }

-- ---- one more version

rise_on : (low high : ℕ) (ns : List ℕ) → low < high → RiseBetween low high ns → RiseBetween low (high + 1) (ns ++ high ∷ [])
rise_on low high [] lt h = (lt, omega arith, tt)
rise_on low high (n ∷ ns) lt h = (h.0, omega (arith, h.1), rise_on n high ns h.1 h.2)

raised : (name : List ℕ) (entry : NameEntry) → has_number name entry ≡ true → IsStored entry → IsStored (with_version name entry)
raised name entry number h = by_test (is_named name entry) number where
  by_test : (b : Bool) → (not b || nat_lt entry.next 65536) ≡ true → IsStored (cond b (record entry { next = entry.next + 1; versions = entry.versions ++ entry.next ∷ [] }) entry)
  by_test false e = h
  by_test true e =
      let below : entry.next < 65536 = ltb-true entry.next 65536 e in
      record { name = h.name; schema = h.schema; named = h.named; next = (omega arith, omega (arith, below)); versions = rise_on 0 entry.next entry.versions (omega (arith, h.next.0)) h.versions }

same_names : (f : NameEntry → NameEntry) → ((entry : NameEntry) → (f entry).name ≡ entry.name) → (es : List NameEntry) → names_in (map f es) ≡ names_in es
same_names f same [] = refl
same_names f same (e ∷ es) = ap (λ (n : List ℕ). n ∷ names_in (map f es)) (same e) ∙ ap (λ (ns : List (List ℕ)). e.name ∷ ns) (same_names f same es)

same_length : (f : NameEntry → NameEntry) (es : List NameEntry) → length (map f es) ≡ length es
same_length f [] = refl
same_length f (e ∷ es) = ap suc (same_length f es)

raised_name : (name : List ℕ) (entry : NameEntry) → (with_version name entry).name ≡ entry.name
raised_name name entry = by_test (is_named name entry) where
  by_test : (b : Bool) → (cond b (record entry { next = entry.next + 1; versions = entry.versions ++ entry.next ∷ [] }) entry).name ≡ entry.name
  by_test true = refl
  by_test false = refl

all_raised : (name : List ℕ) (es : List NameEntry) → list_all (has_number name) es ≡ true → AllByRecursion IsStored es → AllByRecursion IsStored (map (with_version name) es)
all_raised name [] numbers all = tt
all_raised name (e ∷ es) numbers all =
    let n = and_parts (has_number name e) (list_all (has_number name) es) numbers in
    (raised name e n.0 all.0, all_raised name es n.1 all.1)

pub add_version : (name : List ℕ) (es : List NameEntry) → list_all (has_number name) es ≡ true → AreStored (record { arrays = es }) → AreStored (record { arrays = map (with_version name) es })
add_version name es numbers h =
    let same : length (map (with_version name) es) ≡ length es = same_length (with_version name) es in
    record {
      count = omega (arith, same, h.count);
      rising = subst NamesRise (sym (same_names (with_version name) (raised_name name) es)) h.rising;
      each = all_raised name es numbers h.each;
    }

-- ---- versions that go

rise_from : (low high : ℕ) (least : ℕ) (ns : List ℕ) → low ≤ least → RiseBetween least high ns → RiseBetween low high ns
rise_from low high least [] le h = tt
rise_from low high least (n ∷ ns) le h = (omega (arith, le, h.0), h.1, h.2)

kept_by : (b : Bool) (low high n : ℕ) (kept : List ℕ) → low < n → n < high → RiseBetween n high kept → RiseBetween low high (cond b (n ∷ kept) kept)
kept_by true low high n kept l g h = (l, g, h)
kept_by false low high n kept l g h = rise_from low high n kept (omega (arith, l)) h

rise_kept : (p : ℕ → Bool) (low high : ℕ) (ns : List ℕ) → RiseBetween low high ns → RiseBetween low high (filter p ns)
rise_kept p low high [] h = tt
rise_kept p low high (n ∷ ns) h = kept_by (p n) low high n (filter p ns) h.0 h.1 (rise_kept p n high ns h.2)

cut_one : (name : List ℕ) (below : ℕ) (entry : NameEntry) → IsStored entry → IsStored (without_below name below entry)
cut_one name below entry h = by_test (is_named name entry) where
  by_test : (b : Bool) → IsStored (cond b (record entry { versions = filter (λ v. not (nat_lt v below)) entry.versions }) entry)
  by_test false = h
  by_test true = record { name = h.name; schema = h.schema; named = h.named; next = h.next; versions = rise_kept (λ v. not (nat_lt v below)) 0 entry.next entry.versions h.versions }

cut_name : (name : List ℕ) (below : ℕ) (entry : NameEntry) → (without_below name below entry).name ≡ entry.name
cut_name name below entry = by_test (is_named name entry) where
  by_test : (b : Bool) → (cond b (record entry { versions = filter (λ v. not (nat_lt v below)) entry.versions }) entry).name ≡ entry.name
  by_test true = refl
  by_test false = refl

all_cut : (name : List ℕ) (below : ℕ) (es : List NameEntry) → AllByRecursion IsStored es → AllByRecursion IsStored (map (without_below name below) es)
all_cut name below [] all = tt
all_cut name below (e ∷ es) all = (cut_one name below e all.0, all_cut name below es all.1)

pub cut_versions : (name : List ℕ) (below : ℕ) (es : List NameEntry) → AreStored (record { arrays = es }) → AreStored (record { arrays = map (without_below name below) es })
cut_versions name below es h =
    let same : length (map (without_below name below) es) ≡ length es = same_length (without_below name below) es in
    record {
      count = omega (arith, same, h.count);
      rising = subst NamesRise (sym (same_names (without_below name below) (cut_name name below) es)) h.rising;
      each = all_cut name below es h.each;
    }

-- ---- an array that goes

pub after_next : (prev : List ℕ) (e : NameEntry) (es : List NameEntry) → RiseAfter prev (e ∷ es) → RiseAfter prev es
after_next prev e [] h = tt
after_next prev e (f ∷ es) h = (before_trans prev e.name f.name h.0 h.1.0, h.1.1)

less_by : (b : Bool) (prev : List ℕ) (e : NameEntry) (left : List NameEntry) → is_before prev e.name ≡ true → RiseAfter e.name left → RiseAfter prev left → RiseAfter prev (cond b (e ∷ left) left)
less_by true prev e left l behind h = (l, behind)
less_by false prev e left l behind h = h

after_less : (p : NameEntry → Bool) (prev : List ℕ) (es : List NameEntry) → RiseAfter prev es → RiseAfter prev (filter p es)
after_less p prev [] h = tt
after_less p prev (e ∷ es) h = less_by (p e) prev e (filter p es) h.0 (after_less p e.name es h.1) (after_less p prev es (after_next prev e es h))

first_by : (b : Bool) (e : NameEntry) (left : List NameEntry) → RiseAfter e.name left → NamesRise (names_in left) → NamesRise (names_in (cond b (e ∷ left) left))
first_by true e left behind h = behind
first_by false e left behind h = h

rise_less : (p : NameEntry → Bool) (es : List NameEntry) → NamesRise (names_in es) → NamesRise (names_in (filter p es))
rise_less p [] h = tt
rise_less p (e ∷ es) h = first_by (p e) e (filter p es) (after_less p e.name es h) (rise_less p es (tail_rises e es h))

fewer_by : (b : Bool) (e : NameEntry) (left : List NameEntry) (n : ℕ) → length left ≤ n → length (cond b (e ∷ left) left) ≤ suc n
fewer_by true e left n le = omega (arith, le)
fewer_by false e left n le = omega (arith, le)

fewer : (p : NameEntry → Bool) (es : List NameEntry) → length (filter p es) ≤ length es
fewer p [] = omega arith
fewer p (e ∷ es) = fewer_by (p e) e (filter p es) (length es) (fewer p es)

all_by : {A : Type 0} (P : A → Type 0) (b : Bool) (e : A) (left : List A) → P e → AllByRecursion P left → AllByRecursion P (cond b (e ∷ left) left)
all_by P true e left is all = (is, all)
all_by P false e left is all = all

pub all_less : {A : Type 0} (P : A → Type 0) (p : A → Bool) (es : List A) → AllByRecursion P es → AllByRecursion P (filter p es)
all_less P p [] all = tt
all_less P p (e ∷ es) all = all_by P (p e) e (filter p es) all.0 (all_less P p es all.1)

pub take_out : (p : NameEntry → Bool) (es : List NameEntry) → AreStored (record { arrays = es }) → AreStored (record { arrays = filter p es })
take_out p es h = record { count = omega (arith, fewer p es, h.count); rising = rise_less p es h.rising; each = all_less IsStored p es h.each }

-- ---- all changes

pub stored_numbers : (name : List ℕ) (schema : Schema) (es : List NameEntry) (i : ℕ) → list_all (has_number name) es ≡ true → list_all (has_number name) (insert es i (new_entry name schema)) ≡ true
stored_numbers name schema es i all = all_pass_inserted (has_number name) (new_entry name schema) (small (is_named name (new_entry name schema))) es i all where
  small : (b : Bool) → (not b || true) ≡ true
  small true = refl
  small false = refl

store_one : (name : List ℕ) (schema : Schema) (es : List NameEntry) (b : Bool) → has_array es name ≡ b → IsName name → HasNames schema → is_valid schema ≡ true → (b || has_room es) ≡ true → list_all (has_number name) es ≡ true
    → AreStored (record { arrays = es }) → AreStored (record { arrays = map (with_version name) (cond b es (with_array name schema es)) })
store_one name schema es true e named of_names valid room numbers h = add_version name es numbers h
store_one name schema es false e named of_names valid room numbers h =
    add_version name (with_array name schema es) (stored_numbers name schema es (place_of es name) numbers) (add_array name schema es named of_names valid room e h)

pub changes_keep_names : ChangesKeepNames
changes_keep_names names (Create name schema) h named ok =
    let a = and_parts (is_valid schema) (has_room names.arrays && not (has_array names.arrays name)) ok in
    let b = and_parts (has_room names.arrays) (not (has_array names.arrays name)) a.1 in
    add_array name schema names.arrays named.0 named.1 a.0 b.0 (not-true (has_array names.arrays name) b.1) h
changes_keep_names names (Store name schema plan) h named ok =
    let a = and_parts (is_valid schema) ((has_array names.arrays name || has_room names.arrays) && list_all (has_number name) names.arrays) ok in
    let b = and_parts (has_array names.arrays name || has_room names.arrays) (list_all (has_number name) names.arrays) a.1 in
    store_one name schema names.arrays (has_array names.arrays name) refl named.0 named.1 a.0 b.0 b.1 h
changes_keep_names names (Insert name schema plan) h named ok =
    let a = and_parts (has_array names.arrays name) (list_all (has_number name) names.arrays) ok in
    add_version name names.arrays a.1 h
changes_keep_names names (Remove name) h named ok = take_out (λ entry. not (is_named name entry)) names.arrays h
changes_keep_names names (RemoveVersions name below) h named ok = cut_versions name below names.arrays h
