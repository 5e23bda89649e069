-- The versions that can be named are those that have pages.
use Rattle.std.proofs.Common.{◌≡◌, ◌∙◌, ℕ, zero, suc, ◌+◌, Bool, true, false, not, ◌&&◌, ◌||◌, if◌then◌else◌, nat_eq, nat_lt, List, [], ◌∷◌, ◌++◌, map, None, Some, refl, ap, sym, IsTrue}
use Rattle.std.specs.List.{filter, list_any, list_all, find, insert}
use Rattle.std.specs.Str.{bytes_eq}
use Rattle.std.proofs.lemmas.Slice.Eq.{bytes_eq-Decides}
use Rattle.std.proofs.lemmas.Bool.Decides.{same_from_decides}
use Rattle.std.proofs.lemmas.List.Folds.{list_any-append}
use Rattle.std.proofs.lemmas.Map.Views.{any-filter_same}
use Rattle.std.proofs.lemmas.Bool.{and_parts, and_from, or_parts, or_from, not-true, not_from_false, eqb-true}
use Rattle.cell_values.specs.declared.schema.Schema.{Schema}
use Rattle.plan_changes.specs.declared.change.Change.{Change}
use Rattle.plan_changes.specs.declared.change.Change.TheVariants.{Create, Store, Insert, Remove, RemoveVersions}
use Rattle.plan_changes.specs.NameEntry.{NameEntry}
use Rattle.plan_changes.specs.Names.{Names}
use Rattle.plan_changes.specs.Changes.{is_named, has_array, place_of, with_array, with_absent, with_version, without_below, arrays_after, names_after, next_of, next_or}
use Rattle.plan_changes.specs.Allowed.{names_allow, has_number, has_room}
use Rattle.cell_values.specs.Schemas.{is_valid}
use Rattle.event_core.specs.PageSets.{holds}
use Rattle.event_core.specs.declared.entry.Used.{Used}
use Rattle.event_core.specs.declared.entry.Entry.TheVariants.{Pin, Unpin, Commit, Reap}
use Rattle.event_core.specs.declared.state.VersionPages.{VersionPages}
use Rattle.event_core.specs.declared.state.Core.{Core}
use Rattle.event_core.specs.History.{History, names_at, pages_at, pages_after, is_pages_of}
use Rattle.event_core.specs.Pages.{fresh_at, free_at}
use Rattle.event_core.specs.Allowed.{is_allowed, is_pinned, are_different}
use Rattle.event_core.specs.Agree.{can_name, has_version, are_unique}
use Rattle.event_core.proofs.Tests.{any_map, none_filtered, holds_filter, both_not}
use Rattle.store_versions.specs.LegalLaws.{NamedVersionsHavePages}
use Rattle.event_core.proofs.Runs.{allowed_before, allowed_now}

same_name : (a b : List ℕ) → bytes_eq a b ≡ true → a ≡ b
same_name a b e = (bytes_eq-Decides a b).0 e

pub name_refl : (a : List ℕ) → bytes_eq a a ≡ true
name_refl a = (bytes_eq-Decides a a).1 refl

name_sym : (a b : List ℕ) → bytes_eq a b ≡ bytes_eq b a
name_sym a b = same_from_decides (bytes_eq a b) (bytes_eq b a) (bytes_eq-Decides a b) ((λ e. sym ((bytes_eq-Decides b a).0 e)), (λ e. (bytes_eq-Decides b a).1 (sym e)))

any_cong : {A : Type 0} (p q : A → Bool) → ((x : A) → p x ≡ q x) → (xs : List A) → list_any p xs ≡ list_any q xs
any_cong p q h [] = refl
any_cong p q h (x ∷ xs) = ap (λ b. b || list_any p xs) (h x) ∙ ap (λ b. q x || b) (any_cong p q h xs)

or_swap : (a b c : Bool) → (a || (b || c)) ≡ (b || (a || c))
or_swap true true c = refl
or_swap true false c = refl
or_swap false true c = refl
or_swap false false c = refl

any_inserted : {A : Type 0} (p : A → Bool) (x : A) (xs : List A) (i : ℕ) → list_any p (insert xs i x) ≡ (p x || list_any p xs)
any_inserted p x [] zero = refl
any_inserted p x [] (suc i) = refl
any_inserted p x (y ∷ ys) zero = refl
any_inserted p x (y ∷ ys) (suc i) = ap (λ b. p y || b) (any_inserted p x ys i) ∙ or_swap (p y) (p x) (list_any p ys)

and_over : (c a b : Bool) → ((c && a) || (c && b)) ≡ (c && (a || b))
and_over true a b = refl
and_over false a b = refl

and_none : (c : Bool) → false ≡ (c && false)
and_none true = refl
and_none false = refl

any_and : {A : Type 0} (c : Bool) (p : A → Bool) (xs : List A) → list_any (λ x. c && p x) xs ≡ (c && list_any p xs)
any_and c p [] = and_none c
any_and c p (x ∷ xs) = ap (λ b. (c && p x) || b) (any_and c p xs) ∙ and_over c (p x) (list_any p xs)

-- names stay unique

mapped_name : (f : NameEntry → NameEntry) → ((e : NameEntry) → (f e).name ≡ e.name) → (es : List NameEntry) (name : List ℕ) → has_array (map f es) name ≡ has_array es name
mapped_name f h es name = any_map f (is_named name) es ∙ any_cong (λ e. is_named name (f e)) (is_named name) (λ e. ap (λ m. bytes_eq m name) (h e)) es

unique_mapped : (f : NameEntry → NameEntry) → ((e : NameEntry) → (f e).name ≡ e.name) → (es : List NameEntry) → are_unique (map f es) ≡ are_unique es
unique_mapped f h [] = refl
unique_mapped f h (e ∷ es) =
    ap (λ b. not b && are_unique (map f es)) (mapped_name f h es (f e).name ∙ ap (has_array es) (h e))
    ∙ ap (λ b. not (has_array es e.name) && b) (unique_mapped f h es)

unique_if : (b : Bool) (e : NameEntry) (ys : List NameEntry) → not (has_array ys e.name) ≡ true → are_unique ys ≡ true → are_unique (if b then e ∷ ys else ys) ≡ true
unique_if true e ys n u = and_from _ _ n u
unique_if false e ys n u = u

unique_filtered : (t : NameEntry → Bool) (es : List NameEntry) → are_unique es ≡ true → are_unique (filter t es) ≡ true
unique_filtered t [] u = refl
unique_filtered t (e ∷ es) u =
    let p : (not (has_array es e.name) ≡ true) × (are_unique es ≡ true) = and_parts (not (has_array es e.name)) (are_unique es) u in
    unique_if (t e) e (filter t es) (not_from_false _ (none_filtered (is_named e.name) t es (not-true _ p.0))) (unique_filtered t es p.1)

unique_inserted : (x : NameEntry) (es : List NameEntry) (i : ℕ) → has_array es x.name ≡ false → are_unique es ≡ true → are_unique (insert es i x) ≡ true
unique_inserted x [] zero n u = refl
unique_inserted x [] (suc i) n u = refl
unique_inserted x (y ∷ ys) zero n u = and_from _ _ (not_from_false _ n) u
unique_inserted x (y ∷ ys) (suc i) n u =
    let q : (is_named x.name y ≡ false) × (has_array ys x.name ≡ false) = or_parts (is_named x.name y) (has_array ys x.name) n in
    let p : (not (has_array ys y.name) ≡ true) × (are_unique ys ≡ true) = and_parts (not (has_array ys y.name)) (are_unique ys) u in
    and_from _ _ (not_from_false _ (any_inserted (is_named y.name) x ys i ∙ or_from _ _ (name_sym x.name y.name ∙ q.0) (not-true _ p.0)))
    (unique_inserted x ys i q.1 p.1)

absent_unique : (b : Bool) (name : List ℕ) (schema : Schema) (es : List NameEntry) → has_array es name ≡ b → are_unique es ≡ true → are_unique (if b then es else with_array name schema es) ≡ true
absent_unique true name schema es e u = u
absent_unique false name schema es e u = unique_inserted _ es (place_of es name) e u

absent_there : (b : Bool) (name : List ℕ) (schema : Schema) (es : List NameEntry) → has_array es name ≡ b → has_array (if b then es else with_array name schema es) name ≡ true
absent_there true name schema es e = e
absent_there false name schema es e = any_inserted (is_named name) _ es (place_of es name) ∙ ap (λ b. b || has_array es name) (name_refl name)

version_name : (b : Bool) (e : NameEntry) → (if b then record e { next = e.next + 1; versions = e.versions ++ e.next ∷ [] } else e).name ≡ e.name
version_name true e = refl
version_name false e = refl

below_name : (b : Bool) (below : ℕ) (e : NameEntry) → (if b then record e { versions = filter (λ v. not (nat_lt v below)) e.versions } else e).name ≡ e.name
below_name true below e = refl
below_name false below e = refl

unique_after : (names : Names) (change : Change) → IsTrue (names_allow names change) → are_unique names.arrays ≡ true → are_unique (arrays_after names.arrays change) ≡ true
unique_after names (Create name schema) ok u = unique_inserted _ names.arrays (place_of names.arrays name)
    (not-true (has_array names.arrays name) (and_parts (has_room names.arrays) (not (has_array names.arrays name)) (and_parts (is_valid schema) (has_room names.arrays && not (has_array names.arrays name)) ok).1).1) u
unique_after names (Store name schema plan) ok u =
    unique_mapped (with_version name) (λ e. version_name (is_named name e) e) (with_absent name schema names.arrays)
    ∙ absent_unique (has_array names.arrays name) name schema names.arrays refl u
unique_after names (Insert name schema plan) ok u = unique_mapped (with_version name) (λ e. version_name (is_named name e) e) names.arrays ∙ u
unique_after names (Remove name) ok u = unique_filtered (λ e. not (is_named name e)) names.arrays u
unique_after names (RemoveVersions name below) ok u = unique_mapped (without_below name below) (λ e. below_name (is_named name e) below e) names.arrays ∙ u

-- one more version

abbrev can : List ℕ → ℕ → NameEntry → Bool
can name version entry = is_named name entry && holds entry.versions version

find_none : {A : Type 0} (p : A → Bool) (xs : List A) → list_any p xs ≡ false → find p xs ≡ None
find_none p [] n = refl
find_none p (x ∷ xs) n = ap (λ b. if b then Some x else find p xs) (or_parts _ _ n).0 ∙ find_none p xs (or_parts _ _ n).1

find_inserted : {A : Type 0} (p : A → Bool) (x : A) → p x ≡ true → (xs : List A) (i : ℕ) → list_any p xs ≡ false → find p (insert xs i x) ≡ Some x
find_inserted p x h [] zero n = ap (λ b. if b then Some x else None) h
find_inserted p x h [] (suc i) n = ap (λ b. if b then Some x else None) h
find_inserted p x h (y ∷ ys) zero n = ap (λ b. if b then Some x else find p (y ∷ ys)) h
find_inserted p x h (y ∷ ys) (suc i) n = ap (λ b. if b then Some y else find p (insert ys i x)) (or_parts _ _ n).0 ∙ find_inserted p x h ys i (or_parts _ _ n).1

absent_next : (b : Bool) (name : List ℕ) (schema : Schema) (es : List NameEntry) → has_array es name ≡ b → next_of (if b then es else with_array name schema es) name ≡ next_of es name
absent_next true name schema es e = refl
absent_next false name schema es e = ap next_or (find_inserted (is_named name) _ (name_refl name) es (place_of es name) e) ∙ ap next_or (sym (find_none (is_named name) es e))

no_versions : (k r : Bool) → ((k && false) || r) ≡ r
no_versions true r = refl
no_versions false r = refl

absent_can : (b : Bool) (name : List ℕ) (schema : Schema) (es : List NameEntry) (n : List ℕ) (v : ℕ) → list_any (can n v) (if b then es else with_array name schema es) ≡ list_any (can n v) es
absent_can true name schema es n v = refl
absent_can false name schema es n v = any_inserted (can n v) _ es (place_of es name) ∙ no_versions (bytes_eq name n) (list_any (can n v) es)

unnamed_stays : (b : Bool) (e : NameEntry) → b ≡ false → (if b then record e { next = e.next + 1; versions = e.versions ++ e.next ∷ [] } else e) ≡ e
unnamed_stays true e f = absurd (both_not true f refl)
unnamed_stays false e f = refl

none_raised : (name : List ℕ) (es : List NameEntry) → has_array es name ≡ false → map (with_version name) es ≡ es
none_raised name [] n = refl
none_raised name (e ∷ es) n = ap (λ x. x ∷ map (with_version name) es) (unnamed_stays (is_named name e) e (or_parts _ _ n).0) ∙ ap (λ xs. e ∷ xs) (none_raised name es (or_parts _ _ n).1)

joined : (k l a c r : Bool) → k ≡ l → ((k && (a || (c || false))) || r) ≡ (((k && a) || r) || (l && c))
joined true true true c true e = refl
joined true true true c false e = refl
joined true true false true true e = refl
joined true true false true false e = refl
joined true true false false true e = refl
joined true true false false false e = refl
joined false false a c true e = refl
joined false false a c false e = refl
joined true false a c r e = absurd (both_not true e refl)
joined false true a c r e = absurd (both_not true (sym e) refl)

grouped : (a b c d : Bool) → b ≡ (c || d) → (a || b) ≡ ((a || c) || d)
grouped true b c d e = refl
grouped false b c d e = e

added_by : (b : Bool) (name n : List ℕ) (v : ℕ) (e : NameEntry) (es ws : List NameEntry) → is_named name e ≡ b → (b ≡ true → ws ≡ es) →
    (b ≡ false → list_any (can n v) ws ≡ (list_any (can n v) es || (bytes_eq name n && nat_eq (next_of es name) v))) →
    (can n v (if b then record e { next = e.next + 1; versions = e.versions ++ e.next ∷ [] } else e) || list_any (can n v) ws)
    ≡ ((can n v e || list_any (can n v) es) || (bytes_eq name n && nat_eq (next_or (if b then Some e else find (is_named name) es)) v))
added_by true name n v e es ws is same more =
    ap (λ xs. (bytes_eq e.name n && holds (e.versions ++ e.next ∷ []) v) || list_any (can n v) xs) (same refl)
    ∙ ap (λ b. (bytes_eq e.name n && b) || list_any (can n v) es) (list_any-append (λ other. nat_eq other v) e.versions (e.next ∷ []))
    ∙ joined (bytes_eq e.name n) (bytes_eq name n) (holds e.versions v) (nat_eq e.next v) (list_any (can n v) es) (ap (λ m. bytes_eq m n) (same_name e.name name is))
added_by false name n v e es ws is same more = grouped (can n v e) (list_any (can n v) ws) (list_any (can n v) es) (bytes_eq name n && nat_eq (next_of es name) v) (more refl)

other_there : (a b : Bool) → a ≡ false → (a || b) ≡ true → b ≡ true
other_there true b f e = absurd (both_not true f refl)
other_there false b f e = e

version_added : (name n : List ℕ) (v : ℕ) (es : List NameEntry) → are_unique es ≡ true → has_array es name ≡ true →
    list_any (can n v) (map (with_version name) es) ≡ (list_any (can n v) es || (bytes_eq name n && nat_eq (next_of es name) v))
version_added name n v [] u there = absurd (both_not false refl there)
version_added name n v (e ∷ es) u there =
    let p : (not (has_array es e.name) ≡ true) × (are_unique es ≡ true) = and_parts (not (has_array es e.name)) (are_unique es) u in
    added_by (is_named name e) name n v e es (map (with_version name) es) refl
    (λ t. none_raised name es (ap (has_array es) (sym (same_name e.name name t)) ∙ not-true _ p.0))
    (λ f. version_added name n v es p.1 (other_there (is_named name e) (has_array es name) f there))

-- versions cut

cut_named : (k s l a : Bool) → (k ≡ true → s ≡ true) → (k && (not l && a)) ≡ (not (s && l) && (k && a))
cut_named true true l a h = refl
cut_named true false l a h = absurd (both_not false refl (h refl))
cut_named false s l a h = and_none (not (s && l))

cut_other : (k s l a : Bool) → (k ≡ true → s ≡ false) → (k && a) ≡ (not (s && l) && (k && a))
cut_other true false l a h = refl
cut_other true true l a h = absurd (both_not true (h refl) refl)
cut_other false s l a h = and_none (not (s && l))

cut_by : (b : Bool) (name n : List ℕ) (below v : ℕ) (e : NameEntry) → is_named name e ≡ b →
    can n v (if b then record e { versions = filter (λ w. not (nat_lt w below)) e.versions } else e) ≡ (not (bytes_eq n name && nat_lt v below) && can n v e)
cut_by true name n below v e is =
    ap (λ b. bytes_eq e.name n && b) (holds_filter (λ w. not (nat_lt w below)) e.versions v)
    ∙ cut_named (bytes_eq e.name n) (bytes_eq n name) (nat_lt v below) (holds e.versions v) (λ t. ap (λ m. bytes_eq m name) (sym (same_name e.name n t)) ∙ is)
cut_by false name n below v e is =
    cut_other (bytes_eq e.name n) (bytes_eq n name) (nat_lt v below) (holds e.versions v) (λ t. ap (λ m. bytes_eq m name) (sym (same_name e.name n t)) ∙ is)

two_same : (w v below : ℕ) (m n name : List ℕ) → (bytes_eq m n && nat_eq w v) ≡ true → not (bytes_eq m name && nat_lt w below) ≡ not (bytes_eq n name && nat_lt v below)
two_same w v below m n name e =
    ap (λ x. not (bytes_eq x name && nat_lt w below)) (same_name m n (and_parts (bytes_eq m n) (nat_eq w v) e).0)
    ∙ ap (λ x. not (bytes_eq n name && nat_lt x below)) (eqb-true w v (and_parts (bytes_eq m n) (nat_eq w v) e).1)

last_false : (a b c : Bool) → a ≡ b → (a || c) ≡ (b || (c || false))
last_false a true c e = ap (λ d. d || c) e
last_false a false true e = ap (λ d. d || true) e
last_false a false false e = ap (λ d. d || false) e

agree_after : (names : Names) (change : Change) (used : List ℕ) (versions : List VersionPages) → IsTrue (names_allow names change) → are_unique names.arrays ≡ true →
    ((n : List ℕ) (v : ℕ) → can_name names n v ≡ has_version versions n v) →
    (n : List ℕ) (v : ℕ) → can_name (names_after names change) n v ≡ has_version (pages_after names change used versions) n v
agree_after names (Create name schema) used versions ok u h n v = absent_can false name schema names.arrays n v ∙ h n v
agree_after names (Store name schema plan) used versions ok u h n v =
    let has : Bool = has_array names.arrays name in
    version_added name n v (with_absent name schema names.arrays) (absent_unique has name schema names.arrays refl u) (absent_there has name schema names.arrays refl)
    ∙ ap (λ b. b || (bytes_eq name n && nat_eq (next_of (with_absent name schema names.arrays) name) v)) (absent_can has name schema names.arrays n v)
    ∙ ap (λ m. list_any (can n v) names.arrays || (bytes_eq name n && nat_eq m v)) (absent_next has name schema names.arrays refl)
    ∙ last_false _ _ _ (h n v)
    ∙ sym (list_any-append (λ w. is_pages_of n w && nat_eq w.version v) versions (record { name = name; version = next_of names.arrays name; pages = used } ∷ []))
agree_after names (Insert name schema plan) used versions ok u h n v =
    version_added name n v names.arrays u (and_parts (has_array names.arrays name) (list_all (has_number name) names.arrays) ok).0
    ∙ last_false _ _ _ (h n v)
    ∙ sym (list_any-append (λ w. is_pages_of n w && nat_eq w.version v) versions (record { name = name; version = next_of names.arrays name; pages = used } ∷ []))
agree_after names (Remove name) used versions ok u h n v =
    any-filter_same (can n v) (λ e. not (is_named name e)) (not (bytes_eq n name)) (λ e t. ap (λ m. not (bytes_eq m name)) (same_name e.name n (and_parts (bytes_eq e.name n) (holds e.versions v) t).0)) names.arrays
    ∙ ap (λ b. not (bytes_eq n name) && b) (h n v)
    ∙ sym (any-filter_same (λ w. is_pages_of n w && nat_eq w.version v) (λ w. not (is_pages_of name w)) (not (bytes_eq n name)) (λ w t. ap (λ m. not (bytes_eq m name)) (same_name w.name n (and_parts (bytes_eq w.name n) (nat_eq w.version v) t).0)) versions)
agree_after names (RemoveVersions name below) used versions ok u h n v =
    any_map (without_below name below) (can n v) names.arrays
    ∙ any_cong (λ e. can n v (without_below name below e)) (λ e. not (bytes_eq n name && nat_lt v below) && can n v e) (λ e. cut_by (is_named name e) name n below v e refl) names.arrays
    ∙ any_and (not (bytes_eq n name && nat_lt v below)) (can n v) names.arrays
    ∙ ap (λ b. not (bytes_eq n name && nat_lt v below) && b) (h n v)
    ∙ sym (any-filter_same (λ w. is_pages_of n w && nat_eq w.version v) (λ w. not (is_pages_of name w && nat_lt w.version below)) (not (bytes_eq n name && nat_lt v below)) (λ w t. two_same w.version v below w.name n name t) versions)

pub typed_then : (base : Core) (h : History) (session : ℕ) (change : Change) (used : Used) → IsTrue (is_allowed base (Commit session change used ∷ h)) → IsTrue (names_allow (names_at base h) change)
typed_then base h session change used ok =
    let typed : Bool = names_allow (names_at base h) change in
    let rest : Bool = are_different (fresh_at base h change used) && list_all (holds (free_at base h)) (fresh_at base h change used) in
    (and_parts typed rest (and_parts (is_pinned session h) (typed && rest) (allowed_now base h (Commit session change used) ok)).1).0

unique_at : (base : Core) (h : History) → IsTrue (are_unique base.names.arrays) → IsTrue (is_allowed base h) → are_unique (names_at base h).arrays ≡ true
unique_at base [] u ok = u
unique_at base (Pin session ∷ h) u ok = unique_at base h u (allowed_before base h (Pin session) ok)
unique_at base (Unpin session ∷ h) u ok = unique_at base h u (allowed_before base h (Unpin session) ok)
unique_at base (Commit session change used ∷ h) u ok = unique_after (names_at base h) change (typed_then base h session change used ok) (unique_at base h u (allowed_before base h (Commit session change used) ok))
unique_at base (Reap ∷ h) u ok = unique_at base h u (allowed_before base h Reap ok)

pub named_versions_have_pages : NamedVersionsHavePages
named_versions_have_pages base [] u a ok = a
named_versions_have_pages base (Pin session ∷ h) u a ok = named_versions_have_pages base h u a (allowed_before base h (Pin session) ok)
named_versions_have_pages base (Unpin session ∷ h) u a ok = named_versions_have_pages base h u a (allowed_before base h (Unpin session) ok)
named_versions_have_pages base (Commit session change used ∷ h) u a ok =
    agree_after (names_at base h) change used.version (pages_at base h) (typed_then base h session change used ok)
    (unique_at base h u (allowed_before base h (Commit session change used) ok)) (named_versions_have_pages base h u a (allowed_before base h (Commit session change used) ok))
named_versions_have_pages base (Reap ∷ h) u a ok = named_versions_have_pages base h u a (allowed_before base h Reap ok)
