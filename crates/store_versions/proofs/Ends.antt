-- The rows at the opening, version by version and array by array.
use Rattle.std.proofs.Common.{◌≡◌, ◌∙◌, ℕ, ◌+◌, ◌-◌, ◌<◌, ◌≤◌, List, [], ◌∷◌, ◌++◌, length, map, get_or, take, drop, refl, ap, sym, arith, append_assoc}
use Rattle.std.proofs.lemmas.List.{append-nil, length-map, take_at, take_rest}
use Rattle.plan_changes.specs.NameEntry.{NameEntry}
use Rattle.chunk_map.specs.declared.directory.Directory.{Directory}
use Rattle.store_versions.specs.declared.row.VersionRow.{VersionRow}
use Rattle.store_versions.specs.Rows.{array_rows, first_row, first_rows}

pub nothing_left : {A : Type 0} (xs : List A) → length xs ≡ 0 → xs ≡ []
nothing_left [] e = refl
nothing_left (x ∷ xs) e = let bad : ⊥ = omega (arith, e) in absurd bad

array_none : (name numbers : List ℕ) → array_rows name numbers [] ≡ []
array_none name [] = refl
array_none name (number ∷ numbers) = refl

first_none : (entries : List NameEntry) → first_rows entries [] ≡ []
first_none [] = refl
first_none (entry ∷ entries) = refl

pub array_end : (old rows : List VersionRow) (name numbers left : List ℕ) (items all given : List Directory) → items ≡ [] →
    rows ++ array_rows name left items ≡ old ++ array_rows name numbers all → all ≡ given → rows ≡ old ++ array_rows name numbers given
array_end old rows name numbers left items all given none e same =
    sym (append-nil rows) ∙ ap (λ more. rows ++ more) (sym (array_none name left)) ∙ ap (λ more. rows ++ array_rows name left more) (sym none)
    ∙ e ∙ ap (λ more. old ++ array_rows name numbers more) same

pub first_end : (rows : List VersionRow) (entries left : List NameEntry) (items all given : List (List Directory)) → items ≡ [] →
    rows ++ first_rows left items ≡ first_rows entries all → all ≡ given → rows ≡ first_rows entries given
first_end rows entries left items all given none e same =
    sym (append-nil rows) ∙ ap (λ more. rows ++ more) (sym (first_none left)) ∙ ap (λ more. rows ++ first_rows left more) (sym none)
    ∙ e ∙ ap (first_rows entries) same

pub map_end : {A B : Type 0} (f : A → B) (rows : List B) (items all given : List A) → items ≡ [] → rows ++ map f items ≡ map f all → all ≡ given → rows ≡ map f given
map_end f rows items all given none e same = sym (append-nil rows) ∙ ap (λ more. rows ++ map f more) (sym none) ∙ e ∙ ap (map f) same

pub none_below : {A : Type 0} (xs : List A) → length xs < 1 → xs ≡ []
none_below xs few = nothing_left xs (omega (arith, few))

-- the first one, and those behind it
pub some_first : {A : Type 0} (xs : List A) (d : A) → 1 ≤ length xs → xs ≡ get_or xs 0 d ∷ take (length xs - 1) (drop 1 xs)
some_first [] d some = absurd (omega (arith, some))
some_first (x ∷ xs) d some = ap (λ more. x ∷ more) (sym (take_rest (x ∷ xs) 1))

pub some_item : {A : Type 0} (xs : List A) (x : A) → 1 ≤ length xs → x ≡ get_or xs 0 x → xs ≡ x ∷ take (length xs - 1) (drop 1 xs)
some_item xs x some is = some_first xs x some ∙ ap (λ y. y ∷ take (length xs - 1) (drop 1 xs)) (sym is)

-- items that were changed in place
pub all_changed : {A : Type 0} (f : A → A) (len : ℕ) (slice new tail rows written : List A) → written ≡ take len (new ++ tail) → new ≡ map f slice →
    length slice ≡ len → slice ≡ rows → written ≡ map f rows
all_changed f len slice new tail rows written e is count same =
    e ∙ take_at new tail len (ap length is ∙ length-map slice f ∙ count) ∙ is ∙ ap (map f) same

-- ---- one more of them

pub one_more : {A B : Type 0} (f : A → B) (rows next : List B) (x : A) (items more : List A) (all : List B) → items ≡ x ∷ more → next ≡ rows ++ f x ∷ [] →
    rows ++ map f items ≡ all → next ++ map f more ≡ all
one_more f rows next x items more all is e so_far =
    ap (λ ys. ys ++ map f more) e ∙ append_assoc rows (f x ∷ []) (map f more) ∙ ap (λ xs. rows ++ map f xs) (sym is) ∙ so_far

pub one_less : {A : Type 0} (count next : ℕ) (x : A) (items more : List A) → count ≡ length items → items ≡ x ∷ more → next + 1 ≡ count → next ≡ length more
one_less count next x items more counted is e = let longer : length items ≡ length (x ∷ more) = ap length is in omega (arith, counted, e, longer)

module _ (old rows next : List VersionRow) (name numbers : List ℕ) (directory : Directory) (items more all : List Directory) (is : items ≡ directory ∷ more) where
  pub array_more : (left rest : List ℕ) (number : ℕ) → left ≡ number ∷ rest → next ≡ rows ++ first_row name number directory ∷ [] →
      rows ++ array_rows name left items ≡ old ++ array_rows name numbers all → next ++ array_rows name rest more ≡ old ++ array_rows name numbers all
  array_more left rest number some e so_far =
      ap (λ rs. rs ++ array_rows name rest more) e ∙ append_assoc rows (first_row name number directory ∷ []) (array_rows name rest more)
      ∙ ap (λ numbers. rows ++ array_rows name numbers (directory ∷ more)) (sym some) ∙ ap (λ ds. rows ++ array_rows name left ds) (sym is) ∙ so_far

pub array_past : (old rows : List VersionRow) (name numbers left : List ℕ) (items more all : List Directory) → left ≡ [] →
    rows ++ array_rows name left items ≡ old ++ array_rows name numbers all → rows ++ array_rows name left more ≡ old ++ array_rows name numbers all
array_past old rows name numbers left items more all none so_far =
    ap (λ numbers. rows ++ array_rows name numbers more) none ∙ sym (ap (λ numbers. rows ++ array_rows name numbers items) none) ∙ so_far

pub first_more : (rows next all : List VersionRow) (left rest : List NameEntry) (entry : NameEntry) (row : List Directory) (items more : List (List Directory)) →
    left ≡ entry ∷ rest → items ≡ row ∷ more → next ≡ rows ++ array_rows entry.name entry.versions row →
    rows ++ first_rows left items ≡ all → next ++ first_rows rest more ≡ all
first_more rows next all left rest entry row items more some is e so_far =
    ap (λ rs. rs ++ first_rows rest more) e ∙ append_assoc rows (array_rows entry.name entry.versions row) (first_rows rest more)
    ∙ ap (λ entries. rows ++ first_rows entries (row ∷ more)) (sym some) ∙ ap (λ ds. rows ++ first_rows left ds) (sym is) ∙ so_far

pub first_past : (rows all : List VersionRow) (left : List NameEntry) (items more : List (List Directory)) → left ≡ [] → rows ++ first_rows left items ≡ all → rows ++ first_rows left more ≡ all
first_past rows all left items more none so_far =
    ap (λ entries. rows ++ first_rows entries more) none ∙ sym (ap (λ entries. rows ++ first_rows entries items) none) ∙ so_far
