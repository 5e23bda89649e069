-- What a change makes of the items of all arrays, array by array, whatever they are: they have a name and a number, as versions have.
use Rattle.std.proofs.Common.{◌≡◌, ◌∙◌, ℕ, ◌+◌, Bool, true, false, cond, not, ◌&&◌, ◌||◌, nat_lt, List, [], ◌∷◌, ◌++◌, map, drop, Option, None, Some, refl, ap, sym, subst}
use Rattle.std.specs.Prelude.{IsTrue}
use Rattle.std.specs.List.{AllByRecursion, filter, find, insert, prefix_len, count_by}
use Rattle.std.specs.Str.{bytes_eq}
use Rattle.std.proofs.lemmas.Bool.{and_parts, or_parts, not-true}
use Rattle.cell_values.specs.Schemas.{is_valid}
use Rattle.cell_values.specs.declared.schema.Schema.{Schema}
use Rattle.array_rows.specs.Boxes.{by_pairs}
use Rattle.logical_plan.specs.declared.names.NameEntry.{NameEntry}
use Rattle.file_meaning.specs.Change.{Change}
use Rattle.file_meaning.specs.Change.TheVariants.{Create, Store, Insert, Remove, RemoveVersions}
use Rattle.file_meaning.specs.Allowed.{has_room, names_allow}
use Rattle.file_meaning.specs.Changes.{is_named, has_array, name_of, next_or, next_of, place_of, new_entry, with_array, with_absent, with_version, without_below, arrays_after}
use Rattle.file_meaning.specs.Stored.{is_before, NamesRise, RiseBetween, IsStored, AreStored}
use Rattle.file_meaning.proofs.FitLaws.{mapped}
use Rattle.file_meaning.proofs.NamesOf.{map_filter, map_insert, prefix_map}
use Rattle.file_meaning.proofs.StoredLaws.{RiseAfter, names_in, after_next, tail_rises, all_inserted}
use Rattle.file_meaning.proofs.DatabaseLaws.{apart}
use Rattle.file_meaning.specs.BlobAt.{BlobAt}
use Rattle.file_meaning.specs.CatalogArray.{CatalogArray}
use Rattle.file_meaning.specs.Changed.{has_its_directory, changed}
use Rattle.file_meaning.specs.Records.{entries_of, is_array, with_new, with_directory, from_version, without}
use Rattle.file_meaning.proofs.Kept.{new_named}
use Rattle.store_state.proofs.Filters.{name_sym, others_left, others_uncut, own_cut, one_more, cut_off}

-- ---- lists of lists beside the arrays' entries

-- one more item behind those of an array
abbrev pub with_item : {X : Type 0} → List ℕ → X → List NameEntry → List (List X) → List (List X)
with_item n item entries rows = by_pairs (λ entry row. cond (is_named n entry) (row ++ item ∷ []) row) entries rows

-- those of all other arrays
abbrev pub without_items : {X : Type 0} → List ℕ → List NameEntry → List (List X) → List (List X)
without_items n [] rows = []
without_items n (entry ∷ entries) [] = []
without_items n (entry ∷ entries) (row ∷ rows) = cond (is_named n entry) (without_items n entries rows) (row ∷ without_items n entries rows)

-- of an array as many of the first items go as it has versions below a number
abbrev pub cut_items : {X : Type 0} → List ℕ → ℕ → List NameEntry → List (List X) → List (List X)
cut_items n below entries rows = by_pairs (λ entry row. cond (is_named n entry) (drop (count_by (λ version. nat_lt version below) entry.versions) row) row) entries rows

-- the lists after a change
abbrev pub lists_after : {X : Type 0} → List NameEntry → Change → X → List (List X) → List (List X)
lists_after entries (Create n schema) item rows = insert rows (place_of entries n) []
lists_after entries (Store n schema plan) item rows = with_item n item (with_absent n schema entries) (cond (has_array entries n) rows (insert rows (place_of entries n) []))
lists_after entries (Insert n schema plan) item rows = with_item n item entries rows
lists_after entries (Remove n) item rows = without_items n entries rows
lists_after entries (RemoveVersions n below) item rows = cut_items n below entries rows

-- ---- an array's name stays

entry_raised : (n : List ℕ) (e : NameEntry) → (with_version n e).name ≡ e.name
entry_raised n e = by_test (is_named n e)
  where
    by_test : (b : Bool) → (cond b (record e { next = e.next + 1; versions = e.versions ++ e.next ∷ [] }) e).name ≡ e.name
    by_test true = refl
    by_test false = refl

entry_cut : (n : List ℕ) (below : ℕ) (e : NameEntry) → (without_below n below e).name ≡ e.name
entry_cut n below e = by_test (is_named n e)
  where
    by_test : (b : Bool) → (cond b (record e { versions = filter (λ v. not (nat_lt v below)) e.versions }) e).name ≡ e.name
    by_test true = refl
    by_test false = refl

array_raised : (n : List ℕ) (at : BlobAt) (a : CatalogArray) → (with_directory n at a).entry.name ≡ a.entry.name
array_raised n at a = by_test (is_array n a)
  where
    by_test : (b : Bool) → (cond b (record { entry = with_version n a.entry; directories = a.directories ++ at ∷ [] }) a).entry.name ≡ a.entry.name
    by_test true = entry_raised n a.entry
    by_test false = refl

array_cut : (n : List ℕ) (below : ℕ) (a : CatalogArray) → (from_version n below a).entry.name ≡ a.entry.name
array_cut n below a = by_test (is_array n a)
  where
    by_test : (b : Bool) → (cond b (record { entry = without_below n below a.entry; directories = drop (count_by (λ version. nat_lt version below) a.entry.versions) a.directories }) a).entry.name ≡ a.entry.name
    by_test true = entry_cut n below a.entry
    by_test false = refl

-- ---- the next number of an array

none_created : (es : List NameEntry) (n : List ℕ) (schema : Schema) → IsTrue (names_allow (record { arrays = es }) (Create n schema)) → has_array es n ≡ false
none_created es n schema ok =
    let rest = (and_parts (is_valid schema) (has_room es && not (has_array es n)) ok).1 in
    not-true (has_array es n) (and_parts (has_room es) (not (has_array es n)) rest).1

-- an array of the name has this number next
abbrev IsNextOf : List ℕ → ℕ → NameEntry → Type 0
IsNextOf n k e = is_named n e ≡ true → e.next ≡ k

-- behind the first array of a name no other one has it
pub none_behind : (n prev : List ℕ) (es : List NameEntry) → bytes_eq prev n ≡ true → RiseAfter prev es → has_array es n ≡ false
none_behind n prev [] is rise = refl
none_behind n prev (e ∷ es) is rise = by_test (is_named n e) refl (none_behind n prev es is (after_next prev e es rise))
  where
    by_test : (b : Bool) → is_named n e ≡ b → has_array es n ≡ false → (b || has_array es n) ≡ false
    by_test true named later = absurd (apart n prev e.name is rise.0 named)
    by_test false named later = later

none_next : (n : List ℕ) (k : ℕ) (es : List NameEntry) → has_array es n ≡ false → AllByRecursion (IsNextOf n k) es
none_next n k [] none = tt
none_next n k (e ∷ es) none =
    let parts = or_parts (is_named n e) (has_array es n) none in
    let no : is_named n e ≡ false = parts.0 in
    ((λ yes. absurd cc), none_next n k es parts.1)

own_next : (n : List ℕ) (es : List NameEntry) → NamesRise (names_in es) → AllByRecursion (IsNextOf n (next_of es n)) es
own_next n [] rise = tt
own_next n (e ∷ es) rise = by_test (is_named n e) refl (own_next n es (tail_rises e es rise))
  where
    by_test : (b : Bool) → is_named n e ≡ b → AllByRecursion (IsNextOf n (next_of es n)) es → AllByRecursion (IsNextOf n (next_or (cond b (Some e) (find (is_named n) es)))) (e ∷ es)
    by_test true named later = ((λ yes. refl), none_next n e.next es (none_behind n e.name es named rise))
    by_test false named later = ((λ yes. absurd cc), later)

absent_next : (n : List ℕ) (es : List NameEntry) → has_array es n ≡ false → next_of es n ≡ 1
absent_next n [] none = refl
absent_next n (e ∷ es) none =
    let parts = or_parts (is_named n e) (has_array es n) none in
    ap (λ (b : Bool). next_or (cond b (Some e) (find (is_named n) es))) parts.0 ∙ absent_next n es parts.1

-- ---- items

-- of each array what its items have
abbrev pub rows_of : {T X : Type 0} → (T → List ℕ) → (T → X) → List T → List CatalogArray → List (List X)
rows_of name f xs arrays = map (λ array. map f (filter (λ x. bytes_eq (name x) array.entry.name) xs)) arrays

-- the items of an array stand in the order of its numbers
abbrev pub IsOrdered : {T : Type 0} → (T → List ℕ) → (T → ℕ) → List T → NameEntry → Type 0
IsOrdered name number xs entry = map number (filter (λ x. bytes_eq (name x) entry.name) xs) ≡ entry.versions

-- the items after a change, which may make a new one
abbrev pub items_after : {T : Type 0} → (T → List ℕ) → (T → ℕ) → Change → T → List T → List T
items_after name number (Create n schema) new xs = xs
items_after name number (Store n schema plan) new xs = xs ++ new ∷ []
items_after name number (Insert n schema plan) new xs = xs ++ new ∷ []
items_after name number (Remove n) new xs = filter (λ x. not (bytes_eq (name x) n)) xs
items_after name number (RemoveVersions n below) new xs = filter (λ x. not (bytes_eq (name x) n && nat_lt (number x) below)) xs

-- the items of arrays that stand, in order; no other name has any
pub record Stand {T : Type 0} (name : T → List ℕ) (number : T → ℕ) (xs : List T) (entries : List NameEntry) : Type 0 where
  pub stored : AreStored (record { arrays = entries })
  pub none : (n : List ℕ) → has_array entries n ≡ false → filter (λ x. bytes_eq (name x) n) xs ≡ []
  pub order : AllByRecursion (IsOrdered name number xs) entries

module _ {T : Type 0} (name : T → List ℕ) (number : T → ℕ) where
  -- ---- the lists follow

  rows_created : {X : Type 0} (f : T → X) (n : List ℕ) (schema : Schema) (xs : List T) (arrays : List CatalogArray) → filter (λ x. bytes_eq (name x) n) xs ≡ []
      → rows_of name f xs (with_new n schema arrays) ≡ insert (rows_of name f xs arrays) (place_of (entries_of arrays) n) []
  rows_created {X} f n schema xs arrays none =
      let place = prefix_len (λ (array : CatalogArray). is_before array.entry.name n) arrays in
      let new : CatalogArray = record { entry = new_entry n schema; directories = [] } in
      map_insert (λ (array : CatalogArray). map f (filter (λ x. bytes_eq (name x) array.entry.name) xs)) arrays place new
      ∙ ap (λ (ys : List T). insert (rows_of name f xs arrays) place (map f ys)) none
      ∙ ap (λ (i : ℕ). insert (rows_of name f xs arrays) i []) (sym (prefix_map (λ (array : CatalogArray). array.entry) (λ entry. is_before entry.name n) arrays))

  row_made : {X : Type 0} (f : T → X) (n : List ℕ) (at : BlobAt) (xs : List T) (x : T) (a : CatalogArray) → name x ≡ n
      → map f (filter (λ y. bytes_eq (name y) (with_directory n at a).entry.name) (xs ++ x ∷ []))
      ≡ cond (is_named n a.entry) (map f (filter (λ y. bytes_eq (name y) a.entry.name) xs) ++ f x ∷ []) (map f (filter (λ y. bytes_eq (name y) a.entry.name) xs))
  row_made {X} f n at xs x a same =
      let row = map f (filter (λ y. bytes_eq (name y) a.entry.name) xs) in
      ap (λ (m : List ℕ). map f (filter (λ y. bytes_eq (name y) m) (xs ++ x ∷ []))) (array_raised n at a)
      ∙ one_more name f a.entry.name xs x
      ∙ ap (λ (b : Bool). cond b (row ++ f x ∷ []) row) (name_sym (name x) a.entry.name ∙ ap (bytes_eq a.entry.name) same)

  rows_made : {X : Type 0} (f : T → X) (n : List ℕ) (at : BlobAt) (xs : List T) (x : T) (arrays : List CatalogArray) → name x ≡ n
      → rows_of name f (xs ++ x ∷ []) (map (with_directory n at) arrays) ≡ with_item n (f x) (entries_of arrays) (rows_of name f xs arrays)
  rows_made f n at xs x [] same = refl
  rows_made f n at xs x (a ∷ arrays) same =
      let first = row_made f n at xs x a same in
      let others = rows_made f n at xs x arrays same in
      λ i. first i ∷ others i

  rows_stored : {X : Type 0} (f : T → X) (n : List ℕ) (schema : Schema) (at : BlobAt) (xs : List T) (x : T) (arrays : List CatalogArray) (b : Bool) → name x ≡ n
      → (b ≡ false → filter (λ y. bytes_eq (name y) n) xs ≡ [])
      → rows_of name f (xs ++ x ∷ []) (map (with_directory n at) (cond b arrays (with_new n schema arrays)))
      ≡ with_item n (f x) (cond b (entries_of arrays) (with_array n schema (entries_of arrays)))
      (cond b (rows_of name f xs arrays) (insert (rows_of name f xs arrays) (place_of (entries_of arrays) n) []))
  rows_stored f n schema at xs x arrays true same none = rows_made f n at xs x arrays same
  rows_stored {X} f n schema at xs x arrays false same none =
      rows_made f n at xs x (with_new n schema arrays) same
      ∙ ap (λ (es : List NameEntry). with_item n (f x) es (rows_of name f xs (with_new n schema arrays))) (new_named n schema arrays)
      ∙ ap (λ (rows : List (List X)). with_item n (f x) (with_array n schema (entries_of arrays)) rows) (rows_created f n schema xs arrays (none refl))

  rows_left : {X : Type 0} (f : T → X) (n : List ℕ) (xs : List T) (arrays : List CatalogArray)
      → rows_of name f (filter (λ x. not (bytes_eq (name x) n)) xs) (without n arrays) ≡ without_items n (entries_of arrays) (rows_of name f xs arrays)
  rows_left f n xs [] = refl
  rows_left {X} f n xs (a ∷ arrays) = by_test (is_array n a) refl (rows_left f n xs arrays)
    where
      by_test : (b : Bool) → is_array n a ≡ b → rows_of name f (filter (λ x. not (bytes_eq (name x) n)) xs) (without n arrays) ≡ without_items n (entries_of arrays) (rows_of name f xs arrays)
          → rows_of name f (filter (λ x. not (bytes_eq (name x) n)) xs) (cond (not b) (a ∷ without n arrays) (without n arrays))
          ≡ cond b (without_items n (entries_of arrays) (rows_of name f xs arrays))
          (map f (filter (λ x. bytes_eq (name x) a.entry.name) xs) ∷ without_items n (entries_of arrays) (rows_of name f xs arrays))
      by_test true is later = later
      by_test false is later =
          let first = ap (map f) (others_left name a.entry.name n is xs) in
          λ i. first i ∷ later i

  row_cut : {X : Type 0} (f : T → X) (n : List ℕ) (below : ℕ) (xs : List T) (a : CatalogArray) → IsStored a.entry → IsOrdered name number xs a.entry
      → map f (filter (λ x. bytes_eq (name x) (from_version n below a).entry.name) (filter (λ x. not (bytes_eq (name x) n && nat_lt (number x) below)) xs))
      ≡ cond (is_named n a.entry) (drop (count_by (λ version. nat_lt version below) a.entry.versions) (map f (filter (λ x. bytes_eq (name x) a.entry.name) xs)))
      (map f (filter (λ x. bytes_eq (name x) a.entry.name) xs))
  row_cut {X} f n below xs a stored order =
      ap (λ (m : List ℕ). map f (filter (λ x. bytes_eq (name x) m) (filter (λ x. not (bytes_eq (name x) n && nat_lt (number x) below)) xs))) (array_cut n below a)
      ∙ by_test (is_named n a.entry) refl
    where
      by_test : (b : Bool) → is_named n a.entry ≡ b
          → map f (filter (λ x. bytes_eq (name x) a.entry.name) (filter (λ x. not (bytes_eq (name x) n && nat_lt (number x) below)) xs))
          ≡ cond b (drop (count_by (λ version. nat_lt version below) a.entry.versions) (map f (filter (λ x. bytes_eq (name x) a.entry.name) xs)))
          (map f (filter (λ x. bytes_eq (name x) a.entry.name) xs))
      by_test true is =
          let own = filter (λ x. bytes_eq (name x) a.entry.name) xs in
          ap (map f) (own_cut name (λ x. nat_lt (number x) below) a.entry.name n is xs)
          ∙ cut_off number f 0 a.entry.next below own (subst (RiseBetween 0 a.entry.next) (sym order) stored.versions)
          ∙ ap (λ (numbers : List ℕ). drop (count_by (λ version. nat_lt version below) numbers) (map f own)) order
      by_test false is = ap (map f) (others_uncut name (λ x. nat_lt (number x) below) a.entry.name n is xs)

  rows_cut : {X : Type 0} (f : T → X) (n : List ℕ) (below : ℕ) (xs : List T) (arrays : List CatalogArray) → AllByRecursion IsStored (entries_of arrays) → AllByRecursion (IsOrdered name number xs) (entries_of arrays)
      → rows_of name f (filter (λ x. not (bytes_eq (name x) n && nat_lt (number x) below)) xs) (map (from_version n below) arrays) ≡ cut_items n below (entries_of arrays) (rows_of name f xs arrays)
  rows_cut f n below xs [] stored order = refl
  rows_cut f n below xs (a ∷ arrays) stored order =
      let first = row_cut f n below xs a stored.0 order.0 in
      let others = rows_cut f n below xs arrays stored.1 order.1 in
      λ i. first i ∷ others i

  -- a change makes of the lists what it makes of the items
  pub rows_follow : {X : Type 0} (f : T → X) (arrays : List CatalogArray) (xs : List T) (change : Change) (at : Option BlobAt) (new : T) → Stand name number xs (entries_of arrays)
      → IsTrue (names_allow (record { arrays = entries_of arrays }) change) → has_its_directory change at ≡ true → name new ≡ name_of change
      → rows_of name f (items_after name number change new xs) (changed arrays change at) ≡ lists_after (entries_of arrays) change (f new) (rows_of name f xs arrays)
  rows_follow f arrays xs (Create n schema) at new stand ok has same = rows_created f n schema xs arrays (stand.none n (none_created (entries_of arrays) n schema ok))
  rows_follow f arrays xs (Store n schema plan) None new stand ok has same = absurd cc
  rows_follow f arrays xs (Store n schema plan) (Some at) new stand ok has same = rows_stored f n schema at xs new arrays (has_array (entries_of arrays) n) same (stand.none n)
  rows_follow f arrays xs (Insert n schema plan) None new stand ok has same = absurd cc
  rows_follow f arrays xs (Insert n schema plan) (Some at) new stand ok has same = rows_made f n at xs new arrays same
  rows_follow f arrays xs (Remove n) at new stand ok has same = rows_left f n xs arrays
  rows_follow f arrays xs (RemoveVersions n below) at new stand ok has same = rows_cut f n below xs arrays stand.stored.each stand.order

  -- ---- the order stays

  order_made : (n : List ℕ) (xs : List T) (x : T) (e : NameEntry) → name x ≡ n → IsOrdered name number xs e × (is_named n e ≡ true → e.next ≡ number x) → IsOrdered name number (xs ++ x ∷ []) (with_version n e)
  order_made n xs x e same is = by_test (is_named n e) refl is.1
    where
      more : (b : Bool) → is_named n e ≡ b
          → map number (filter (λ y. bytes_eq (name y) e.name) (xs ++ x ∷ [])) ≡ cond b (map number (filter (λ y. bytes_eq (name y) e.name) xs) ++ number x ∷ []) (map number (filter (λ y. bytes_eq (name y) e.name) xs))
      more b named =
          one_more name number e.name xs x
          ∙ ap (λ (t : Bool). cond t (map number (filter (λ y. bytes_eq (name y) e.name) xs) ++ number x ∷ []) (map number (filter (λ y. bytes_eq (name y) e.name) xs)))
          (name_sym (name x) e.name ∙ ap (bytes_eq e.name) same ∙ named)

      by_test : (b : Bool) → is_named n e ≡ b → (is_named n e ≡ true → e.next ≡ number x) → IsOrdered name number (xs ++ x ∷ []) (cond b (record e { next = e.next + 1; versions = e.versions ++ e.next ∷ [] }) e)
      by_test true named next = more true named ∙ ap (λ (ns : List ℕ). ns ++ number x ∷ []) is.0 ∙ ap (λ (k : ℕ). e.versions ++ k ∷ []) (sym (next named))
      by_test false named next = more false named ∙ is.0

  order_cut : (n : List ℕ) (below : ℕ) (xs : List T) (e : NameEntry) → IsOrdered name number xs e → IsOrdered name number (filter (λ x. not (bytes_eq (name x) n && nat_lt (number x) below)) xs) (without_below n below e)
  order_cut n below xs e order = by_test (is_named n e) refl
    where
      by_test : (b : Bool) → is_named n e ≡ b
          → IsOrdered name number (filter (λ x. not (bytes_eq (name x) n && nat_lt (number x) below)) xs) (cond b (record e { versions = filter (λ v. not (nat_lt v below)) e.versions }) e)
      by_test true is =
          ap (map number) (own_cut name (λ x. nat_lt (number x) below) e.name n is xs)
          ∙ map_filter number (λ v. not (nat_lt v below)) (filter (λ x. bytes_eq (name x) e.name) xs)
          ∙ ap (filter (λ v. not (nat_lt v below))) order
      by_test false is = ap (map number) (others_uncut name (λ x. nat_lt (number x) below) e.name n is xs) ∙ order

  order_left : (n : List ℕ) (xs : List T) (es : List NameEntry) → AllByRecursion (IsOrdered name number xs) es
      → AllByRecursion (IsOrdered name number (filter (λ x. not (bytes_eq (name x) n)) xs)) (filter (λ e. not (is_named n e)) es)
  order_left n xs [] all = tt
  order_left n xs (e ∷ es) all = by_test (is_named n e) refl (order_left n xs es all.1)
    where
      by_test : (b : Bool) → is_named n e ≡ b → AllByRecursion (IsOrdered name number (filter (λ x. not (bytes_eq (name x) n)) xs)) (filter (λ e. not (is_named n e)) es)
          → AllByRecursion (IsOrdered name number (filter (λ x. not (bytes_eq (name x) n)) xs)) (cond (not b) (e ∷ filter (λ e. not (is_named n e)) es) (filter (λ e. not (is_named n e)) es))
      by_test true is later = later
      by_test false is later = (ap (map number) (others_left name e.name n is xs) ∙ all.0, later)

  with_next : (n : List ℕ) (k : ℕ) (xs : List T) (es : List NameEntry) → AllByRecursion (IsOrdered name number xs) es → AllByRecursion (IsNextOf n k) es → AllByRecursion (λ e. IsOrdered name number xs e × IsNextOf n k e) es
  with_next n k xs [] order next = tt
  with_next n k xs (e ∷ es) order next = ((order.0, next.0), with_next n k xs es order.1 next.1)

  orders_made : (n : List ℕ) (xs : List T) (x : T) (es : List NameEntry) → name x ≡ n → AllByRecursion (IsOrdered name number xs) es → AllByRecursion (IsNextOf n (number x)) es
      → AllByRecursion (IsOrdered name number (xs ++ x ∷ [])) (map (with_version n) es)
  orders_made n xs x es same order next =
      mapped (λ e. IsOrdered name number xs e × IsNextOf n (number x) e) (IsOrdered name number (xs ++ x ∷ [])) (with_version n) (λ e is. order_made n xs x e same is) es (with_next n (number x) xs es order next)

  orders_stored : (n : List ℕ) (schema : Schema) (xs : List T) (x : T) (es : List NameEntry) (b : Bool) → has_array es n ≡ b → name x ≡ n → number x ≡ next_of es n → NamesRise (names_in es)
      → (has_array es n ≡ false → filter (λ y. bytes_eq (name y) n) xs ≡ []) → AllByRecursion (IsOrdered name number xs) es
      → AllByRecursion (IsOrdered name number (xs ++ x ∷ [])) (map (with_version n) (cond b es (with_array n schema es)))
  orders_stored n schema xs x es true has same next rise none order = orders_made n xs x es same order (subst (λ (k : ℕ). AllByRecursion (IsNextOf n k) es) (sym next) (own_next n es rise))
  orders_stored n schema xs x es false has same next rise none order =
      let first : number x ≡ 1 = next ∙ absent_next n es has in
      orders_made n xs x (with_array n schema es) same (all_inserted (IsOrdered name number xs) (new_entry n schema) es (place_of es n) (ap (map number) (none has)) order)
      (all_inserted (IsNextOf n (number x)) (new_entry n schema) es (place_of es n) (λ yes. sym first) (none_next n (number x) es has))

  -- after a change the items stand in the order of the numbers
  pub orders_follow : (es : List NameEntry) (xs : List T) (change : Change) (new : T) → Stand name number xs es → IsTrue (names_allow (record { arrays = es }) change)
      → name new ≡ name_of change → number new ≡ next_of es (name_of change) → AllByRecursion (IsOrdered name number (items_after name number change new xs)) (arrays_after es change)
  orders_follow es xs (Create n schema) new stand ok same next =
      all_inserted (IsOrdered name number xs) (new_entry n schema) es (place_of es n) (ap (map number) (stand.none n (none_created es n schema ok))) stand.order
  orders_follow es xs (Store n schema plan) new stand ok same next = orders_stored n schema xs new es (has_array es n) refl same next stand.stored.rising (stand.none n) stand.order
  orders_follow es xs (Insert n schema plan) new stand ok same next =
      orders_made n xs new es same stand.order (subst (λ (k : ℕ). AllByRecursion (IsNextOf n k) es) (sym next) (own_next n es stand.stored.rising))
  orders_follow es xs (Remove n) new stand ok same next = order_left n xs es stand.order
  orders_follow es xs (RemoveVersions n below) new stand ok same next =
      mapped (IsOrdered name number xs) (IsOrdered name number (filter (λ x. not (bytes_eq (name x) n && nat_lt (number x) below)) xs)) (without_below n below) (λ e is. order_cut n below xs e is) es stand.order
