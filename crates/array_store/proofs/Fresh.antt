-- A change after entries that leave its arrays alone.
use Rattle.std.proofs.Common.{◌≡◌, ◌∙◌, ℕ, zero, suc, ◌+◌, Bool, true, false, cond, not, ◌&&◌, ◌||◌, nat_lt, List, [], ◌∷◌, ◌++◌, map, Option, refl, ap, sym, subst}
use Rattle.std.specs.Prelude.{nat_le}
use Rattle.std.specs.List.{AllByRecursion, filter, insert, list_all}
use Rattle.std.specs.Str.{bytes_eq}
use Rattle.std.proofs.lemmas.Bool.{or_parts}
use Rattle.cell_values.specs.Schemas.{is_valid}
use Rattle.cell_values.specs.declared.schema.Schema.{Schema}
use Rattle.array_rows.specs.Arrays.{Meant}
use Rattle.array_rows.specs.Rows.{put_all}
use Rattle.logical_plan.specs.CellOps.{fit_rows}
use Rattle.logical_plan.specs.Faults.{if_whole, fault_of}
use Rattle.logical_plan.specs.Leaves.{leaves}
use Rattle.logical_plan.specs.Query.{Query}
use Rattle.logical_plan.specs.declared.names.NameEntry.{NameEntry}
use Rattle.logical_plan.specs.declared.parts.Leaf.{Leaf}
use Rattle.plan_changes.specs.declared.change.Change.{Change}
use Rattle.plan_changes.specs.declared.change.Change.TheVariants.{Create, Store, Insert, Remove, RemoveVersions}
use Rattle.plan_changes.specs.Allowed.{has_room, has_number, names_allow}
use Rattle.plan_changes.specs.Changes.{is_named, has_array, entry_named, newest_of, newest_or, place_of, new_entry, with_array, with_absent, with_version, without_below, arrays_after, name_of}
use Rattle.plan_changes.specs.Databases.{Stored, Database, rows_in, newest_in, newest_rows, fitted, rows_if_whole}
use Rattle.plan_changes.specs.Typed.{IsVersionOf, IsTypedOver, FitsInto, HasTypedPlan}
use Rattle.event_core.specs.declared.entry.Entry.TheVariants.{Pin, Unpin, Commit, Reap}
use Rattle.event_core.specs.declared.state.Core.{Core}
use Rattle.event_core.specs.Cells.{at}
use Rattle.event_core.specs.History.{History, names_at}
use Rattle.plan_changes.proofs.Stays.{not_both}
use Rattle.afl_types.specs.NamesLaws.{leaf_names, change_names}
use Rattle.afl_types.proofs.Agreeing.{first_of, second_of, is_some, any_is_found}
use Rattle.afl_types.proofs.Saying.{changes_stay}
use Rattle.array_store.specs.ChangesLeft.{IsLeft}
use Rattle.array_store.specs.FreshLaws.{AreLeft, FreshChecksStay, FreshChangesAreTyped, FreshChangesMeanTheSame}
use Rattle.array_store.proofs.Left.{of_other, of_earlier, names_stay, array_stays, plans_stay}

-- ---- checking

entries_agree : (base : Core) (later before : History) (names : List (List ℕ)) → AllByRecursion (IsLeft later) names
    → AllByRecursion (λ name. entry_named (names_at base before).arrays name ≡ entry_named (names_at base (later ++ before)).arrays name) names
entries_agree base later before [] left = tt
entries_agree base later before (name ∷ names) left = (sym (names_stay base later before name left.0), entries_agree base later before names left.1)

pub checks_stay : FreshChecksStay
checks_stay base later before text tree change left room e =
    changes_stay (names_at base before) (names_at base (later ++ before)) text tree change (record { room = sym room; entries = entries_agree base later before (change_names change) left }) e

-- ---- next numbers

all_inserted : {A : Type 0} (t : A → Bool) (x : A) → t x ≡ true → (xs : List A) (i : ℕ) → list_all t (insert xs i x) ≡ list_all t xs
all_inserted t x is [] zero = ap (λ (b : Bool). b && true) is
all_inserted t x is [] (suc i) = ap (λ (b : Bool). b && true) is
all_inserted t x is (y ∷ ys) zero = ap (λ (b : Bool). b && list_all t (y ∷ ys)) is
all_inserted t x is (y ∷ ys) (suc i) = ap (λ (b : Bool). t y && b) (all_inserted t x is ys i)

all_changed : {A : Type 0} (t : A → Bool) (f : A → A) → ((x : A) → t (f x) ≡ t x) → (xs : List A) → list_all t (map f xs) ≡ list_all t xs
all_changed t f same [] = refl
all_changed t f same (x ∷ xs) = ap (λ (b : Bool). b && list_all t (map f xs)) (same x) ∙ ap (λ (b : Bool). t x && b) (all_changed t f same xs)

all_kept : {A : Type 0} (t p : A → Bool) → ((x : A) → t x ≡ false → p x ≡ true) → (xs : List A) → list_all t (filter p xs) ≡ list_all t xs
all_kept t p keeps [] = refl
all_kept t p keeps (x ∷ xs) = by_test (t x) (p x) refl refl (all_kept t p keeps xs)
  where
    by_test : (b c : Bool) → t x ≡ b → p x ≡ c → list_all t (filter p xs) ≡ list_all t xs → list_all t (cond c (x ∷ filter p xs) (filter p xs)) ≡ (b && list_all t xs)
    by_test true true is kept later = ap (λ (b : Bool). b && list_all t (filter p xs)) is ∙ later
    by_test true false is kept later = later
    by_test false true is kept later = ap (λ (b : Bool). b && list_all t (filter p xs)) is
    by_test false false is kept later = let yes : p x ≡ true = keeps x is in absurd cc

-- what has the one name hasn't the other
not_the_other : (a name other : List ℕ) → bytes_eq other name ≡ false → bytes_eq a other ≡ true → bytes_eq a name ≡ false
not_the_other a name other apart is = by_test (bytes_eq a name) refl
  where
    by_test : (b : Bool) → bytes_eq a name ≡ b → b ≡ false
    by_test false e = refl
    by_test true e = let no : bytes_eq a other ≡ false = not_both a name other apart e in absurd cc

numbered_alike : (of name : List ℕ) → bytes_eq of name ≡ false → (e : NameEntry) → has_number name (with_version of e) ≡ has_number name e
numbered_alike of name apart e = by_test (is_named of e) refl
  where
    by_test : (b : Bool) → is_named of e ≡ b → has_number name (cond b (record e { next = e.next + 1; versions = e.versions ++ e.next ∷ [] }) e) ≡ has_number name e
    by_test false is = refl
    by_test true is =
        let no : is_named name e ≡ false = not_the_other e.name name of apart is in
        ap (λ (b : Bool). not b || nat_lt (e.next + 1) 65536) no ∙ sym (ap (λ (b : Bool). not b || nat_lt e.next 65536) no)

cut_alike : (of : List ℕ) (below : ℕ) (name : List ℕ) (e : NameEntry) → has_number name (without_below of below e) ≡ has_number name e
cut_alike of below name e = by_test (is_named of e)
  where
    by_test : (b : Bool) → has_number name (cond b (record e { versions = filter (λ v. not (nat_lt v below)) e.versions }) e) ≡ has_number name e
    by_test true = refl
    by_test false = refl

is_true : (b : Bool) → not b ≡ false → b ≡ true
is_true true e = refl
is_true false e = absurd cc

stays_in : (of name : List ℕ) → bytes_eq of name ≡ false → (e : NameEntry) → has_number name e ≡ false → not (is_named of e) ≡ true
stays_in of name apart e fails = ap not (not_both e.name name of apart (is_true (is_named name e) (or_parts (not (is_named name e)) (nat_lt e.next 65536) fails).0))

added_numbers : (of : List ℕ) (schema : Schema) (name : List ℕ) → bytes_eq of name ≡ false → (es : List NameEntry) → list_all (has_number name) (with_array of schema es) ≡ list_all (has_number name) es
added_numbers of schema name apart es = all_inserted (has_number name) (new_entry of schema) (ap (λ (b : Bool). not b || true) apart) es (place_of es of)

absent_numbers : (of : List ℕ) (schema : Schema) (name : List ℕ) → bytes_eq of name ≡ false → (es : List NameEntry) → list_all (has_number name) (with_absent of schema es) ≡ list_all (has_number name) es
absent_numbers of schema name apart es = by_test (has_array es of)
  where
    by_test : (b : Bool) → list_all (has_number name) (cond b es (with_array of schema es)) ≡ list_all (has_number name) es
    by_test true = refl
    by_test false = added_numbers of schema name apart es

numbers_by : (es : List NameEntry) (change : Change) (name : List ℕ) → bytes_eq (name_of change) name ≡ false → list_all (has_number name) (arrays_after es change) ≡ list_all (has_number name) es
numbers_by es (Create of schema) name apart = added_numbers of schema name apart es
numbers_by es (Store of schema plan) name apart = all_changed (has_number name) (with_version of) (numbered_alike of name apart) (with_absent of schema es) ∙ absent_numbers of schema name apart es
numbers_by es (Insert of schema plan) name apart = all_changed (has_number name) (with_version of) (numbered_alike of name apart) es
numbers_by es (Remove of) name apart = all_kept (has_number name) (λ e. not (is_named of e)) (stays_in of name apart) es
numbers_by es (RemoveVersions of below) name apart = all_changed (has_number name) (without_below of below) (cut_alike of below name) es

numbers_stay : (base : Core) (later before : History) (name : List ℕ) → IsLeft later name → list_all (has_number name) (names_at base (later ++ before)).arrays ≡ list_all (has_number name) (names_at base before).arrays
numbers_stay base [] before name left = refl
numbers_stay base (Pin s ∷ later) before name left = numbers_stay base later before name left
numbers_stay base (Unpin s ∷ later) before name left = numbers_stay base later before name left
numbers_stay base (Commit s change used ∷ later) before name left =
    numbers_by (names_at base (later ++ before)).arrays change name (of_other name s change later left) ∙ numbers_stay base later before name (of_earlier name s change later left)
numbers_stay base (Reap ∷ later) before name left = numbers_stay base later before name left

-- ---- typed changes

of_images : {A B : Type 0} (P : B → Type 0) (f : A → B) (xs : List A) → AllByRecursion P (map f xs) → AllByRecursion (λ x. P (f x)) xs
of_images P f [] all = tt
of_images P f (x ∷ xs) all = (all.0, of_images P f xs all.1)

module _ (base : Core) (later before : History) where
  abbrev old : List NameEntry
  old = (names_at base before).arrays

  abbrev new : List NameEntry
  new = (names_at base (later ++ before)).arrays

  module _ (name : List ℕ) (left : IsLeft later name) where
    same_entry : entry_named new name ≡ entry_named old name
    same_entry = names_stay base later before name left

    same_array : has_array new name ≡ has_array old name
    same_array = any_is_found (is_named name) new ∙ ap is_some same_entry ∙ sym (any_is_found (is_named name) old)

    same_newest : newest_of new name ≡ newest_of old name
    same_newest = ap newest_or same_entry

    same_numbers : list_all (has_number name) new ≡ list_all (has_number name) old
    same_numbers = numbers_stay base later before name left

  -- the name that a change with a plan is about, and those that the plan reads
  own : (plan : Query) (name : List ℕ) → AllByRecursion (IsLeft later) (leaf_names plan ++ name ∷ []) → IsLeft later name
  own plan name left = (second_of (IsLeft later) (leaf_names plan) (name ∷ []) left).0

  read : (plan : Query) (name : List ℕ) → AllByRecursion (IsLeft later) (leaf_names plan ++ name ∷ []) → AllByRecursion (λ leaf. IsLeft later leaf.name) (leaves plan)
  read plan name left = of_images (IsLeft later) (λ leaf. leaf.name) (leaves plan) (first_of (IsLeft later) (leaf_names plan) (name ∷ []) left)

  allowed : (change : Change) → AreLeft later change → has_room new ≡ has_room old → names_allow (names_at base (later ++ before)) change ≡ names_allow (names_at base before) change
  allowed (Create name schema) left room =
      ap (λ (b : Bool). is_valid schema && (b && not (has_array new name))) room ∙ ap (λ (b : Bool). is_valid schema && (has_room old && not b)) (same_array name left.0)
  allowed (Store name schema plan) left room =
      ap (λ (b : Bool). is_valid schema && ((b || has_room new) && list_all (has_number name) new)) (same_array name (own plan name left))
      ∙ ap (λ (b : Bool). is_valid schema && ((has_array old name || b) && list_all (has_number name) new)) room
      ∙ ap (λ (b : Bool). is_valid schema && ((has_array old name || has_room old) && b)) (same_numbers name (own plan name left))
  allowed (Insert name schema plan) left room =
      ap (λ (b : Bool). b && list_all (has_number name) new) (same_array name (own plan name left)) ∙ ap (λ (b : Bool). has_array old name && b) (same_numbers name (own plan name left))
  allowed (Remove name) left room = same_array name left.0
  allowed (RemoveVersions name below) left room =
      ap (λ (b : Bool). b && (nat_le 1 below && nat_le below (newest_of new name))) (same_array name left.0)
      ∙ ap (λ (n : ℕ). has_array old name && (nat_le 1 below && nat_le below n)) (same_newest name left.0)

  still_read : (ls : List Leaf) → AllByRecursion (λ leaf. IsLeft later leaf.name) ls → AllByRecursion (λ leaf. IsVersionOf leaf (entry_named old leaf.name)) ls → AllByRecursion (λ leaf. IsVersionOf leaf (entry_named new leaf.name)) ls
  still_read [] left reads = tt
  still_read (leaf ∷ ls) left reads = (subst (IsVersionOf leaf) (sym (same_entry leaf.name left.0)) reads.0, still_read ls left.1 reads.1)

  still_over : (plan : Query) → AllByRecursion (λ leaf. IsLeft later leaf.name) (leaves plan) → IsTypedOver (names_at base before) plan → IsTypedOver (names_at base (later ++ before)) plan
  still_over plan left over = record { typed = over.typed; reads = still_read (leaves plan) left over.reads }

  still_fits : (name : List ℕ) (schema : Schema) (plan : Query) → IsLeft later name → FitsInto (entry_named old name) schema plan → FitsInto (entry_named new name) schema plan
  still_fits name schema plan left fits = subst (λ (o : Option NameEntry). FitsInto o schema plan) (sym (same_entry name left)) fits

  still_typed : (change : Change) → AreLeft later change → HasTypedPlan (names_at base before) change → HasTypedPlan (names_at base (later ++ before)) change
  still_typed (Create name schema) left typed = tt
  still_typed (Store name schema plan) left typed = (still_over plan (read plan name left) typed.0, still_fits name schema plan (own plan name left) typed.1)
  still_typed (Insert name schema plan) left typed = (still_over plan (read plan name left) typed.0, still_fits name schema plan (own plan name left) typed.1)
  still_typed (Remove name) left typed = tt
  still_typed (RemoveVersions name below) left typed = tt

pub changes_are_typed : FreshChangesAreTyped
changes_are_typed base later before change left room typed = (allowed base later before change left room ∙ typed.0, still_typed base later before change left typed.1)

-- ---- what is stored

module _ (db : Database) (later before : History) where
  same_fitted : (schema : Schema) (plan : Query) → AllByRecursion (λ leaf. IsLeft later leaf.name) (leaves plan) → fitted schema plan (at db (later ++ before)) ≡ fitted schema plan (at db before)
  same_fitted schema plan left = ap (λ (m : Meant). if_whole (fit_rows schema.attributes) m.rows) (plans_stay db later before plan left)

  same_newest_rows : (name : List ℕ) → IsLeft later name → newest_rows (at db (later ++ before)) name ≡ newest_rows (at db before) name
  same_newest_rows name left = ap (λ (o : Option Stored). rows_in o (newest_in o)) (array_stays db later before name left)

pub changes_mean_the_same : FreshChangesMeanTheSame
changes_mean_the_same db later before (Create name schema) left = (refl, refl)
changes_mean_the_same db later before (Store name schema plan) left =
    let same = same_fitted db later before schema plan (of_images (IsLeft later) (λ leaf. leaf.name) (leaves plan) (first_of (IsLeft later) (leaf_names plan) (name ∷ []) left)) in
    (ap fault_of same, ap rows_if_whole same)
changes_mean_the_same db later before (Insert name schema plan) left =
    let same = same_fitted db later before schema plan (of_images (IsLeft later) (λ leaf. leaf.name) (leaves plan) (first_of (IsLeft later) (leaf_names plan) (name ∷ []) left)) in
    let newest = same_newest_rows db later before name (second_of (IsLeft later) (leaf_names plan) (name ∷ []) left).0 in (
      ap fault_of same,
      ap (λ rows. put_all rows (newest_rows (at db (later ++ before)) name)) (ap rows_if_whole same) ∙ ap (put_all (rows_if_whole (fitted schema plan (at db before)))) newest,
    )
changes_mean_the_same db later before (Remove name) left = (refl, refl)
changes_mean_the_same db later before (RemoveVersions name below) left = (refl, refl)
