-- The pages of directories and payloads lie apart from the catalogue's.
use Rattle.std.proofs.Common.{◌≡◌, ℕ, Bool, true, false, List, [], ◌∷◌, ◌++◌, slice_index, refl, sym, ◌∙◌, ap, subst}
use Rattle.std.specs.Prelude.{if◌then◌else◌, ◌&&◌, ◌||◌, ◌==◌, not, nat_eq, nat_lt, Ok}
use Rattle.std.specs.List.{AllByRecursion, list_any, flat_map}
use Rattle.std.specs.Ordering.{nat_cmp, is_eq}
use Rattle.std.specs.Cmp.Lexicographic.{slice_cmp}
use Rattle.cell_values.specs.declared.schema.Dimension.{Dimension}
use Rattle.chunk_source.specs.Boxes.{by_pairs}
use Rattle.chunk_source.proofs.NumberLaws.{same_number, is_equal}
use Rattle.page_chain.specs.declared.slots.layout.logs.RecordAt.{RecordAt}
use Rattle.page_file.specs.Pages.{page_size, has_page}
use Rattle.page_file.specs.Chains.{names_page}
use Rattle.chunk_map.specs.declared.directory.DirEntry.{DirEntry}
use Rattle.chunk_map.specs.declared.directory.Directory.{Directory}
use Rattle.version_catalog.specs.declared.rules.catalog.BlobAt.{BlobAt}
use Rattle.version_catalog.specs.declared.rules.catalog.CatalogArray.{CatalogArray}
use Rattle.version_catalog.specs.declared.rules.catalog.Catalog.{Catalog}
use Rattle.file_meaning.specs.Slots.{Slots}
use Rattle.file_meaning.specs.Opening.{Logged, logged_in, claimed, is_same, is_seen, payloads_in, Listed, Rules, directory_from, Row, row_in, rows_in, found_in, sequence_of, all_of, version_pages, row_pages, catalogue_pages, stored_pages}
use Rattle.file_meaning.specs.declared.meaning.found.Found.{Found}
use Rattle.file_meaning.proofs.Parts.{claim_parts, both_true}
use Rattle.file_meaning.proofs.Elsewhere.{record_steps, entry_steps, directory_steps, row_steps, rows_steps, FoundSteps, found_steps}
use Rattle.file_meaning.proofs.Fewer.{Fewer}

pub both_all : {A : Type 0} (P : A → Type 0) (xs ys : List A) → AllByRecursion P xs → AllByRecursion P ys → AllByRecursion P (xs ++ ys)
both_all P [] ys p q = q
both_all P (x ∷ xs) ys p q = (p.0, both_all P xs ys p.1 q)

-- free beside some pages
abbrev pub IsFree : List ℕ → List ℕ → ℕ → Type 0
IsFree file base p = names_page page_size file base p ≡ true

less : (x b rest : Bool) → (x && not (b || rest)) ≡ true → (x && not rest) ≡ true
less true true rest is = absurd cc
less true false rest is = is
less false b rest is = absurd cc

without : (file more : List ℕ) (q : ℕ) → Fewer file (q ∷ more) more
without file more q p names = less (nat_lt 0 p && has_page page_size file p) (nat_eq q p) (list_any (λ page. nat_eq page p) more) names

record AreClaimed (file base pages now : List ℕ) : Type 0 where
  free : AllByRecursion (IsFree file base) pages
  fewer : Fewer file now base

claims_free : (file base : List ℕ) (named : ℕ) (pages taken now : List ℕ) → Fewer file taken base → claimed file named taken pages ≡ Ok now → AreClaimed file base pages now
claims_free file base named [] taken now fewer is =
    let same : taken ≡ now = cc in
    record { free = tt; fewer = subst (λ (ps : List ℕ). Fewer file ps base) same fewer }
claims_free file base named (p ∷ pages) taken now fewer is =
    let e = claim_parts file named taken pages now p is in
    let c = claims_free file base named pages (p ∷ taken) now (λ q names. fewer q (without file taken p q names)) e.1 in
    record { free = (fewer p e.0, c.free); fewer = c.fewer }

-- ---- payloads

abbrev pub AreFreeOnes : List ℕ → List ℕ → List DirEntry → Type 0
AreFreeOnes file base entries = AllByRecursion (λ e. AllByRecursion (IsFree file base) e.pages) entries

pub same_pages : (a b : DirEntry) → is_same a b ≡ true → a.pages ≡ b.pages
same_pages a b is =
    let x = both_true (is_eq (slice_cmp nat_cmp a.at.items b.at.items)) (a.length == b.length && (a.birth == b.birth && is_eq (slice_cmp nat_cmp a.pages b.pages))) is in
    let y = both_true (a.length == b.length) (a.birth == b.birth && is_eq (slice_cmp nat_cmp a.pages b.pages)) x.1 in
    let z = both_true (a.birth == b.birth) (is_eq (slice_cmp nat_cmp a.pages b.pages)) y.1 in
    same_number a.pages b.pages (is_equal (slice_cmp nat_cmp a.pages b.pages) z.1)

seen_free : (file base : List ℕ) (entry : DirEntry) (seen : List DirEntry) → AreFreeOnes file base seen → is_seen seen entry ≡ true → AllByRecursion (IsFree file base) entry.pages
seen_free file base entry [] all is = absurd cc
seen_free file base entry (e ∷ seen) all is = cases (is_same entry e) refl is (seen_free file base entry seen all.1)
  where
    cases : (b : Bool) → is_same entry e ≡ b → (b || is_seen seen entry) ≡ true → (is_seen seen entry ≡ true → AllByRecursion (IsFree file base) entry.pages) → AllByRecursion (IsFree file base) entry.pages
    cases true same more later = subst (AllByRecursion (IsFree file base)) (sym (same_pages entry e same)) all.0
    cases false same more later = later more

payload_free : (file base : List ℕ) (named : ℕ) (seen : List DirEntry) (taken now : List ℕ) (entry : DirEntry) → Fewer file taken base → AreFreeOnes file base seen → (b : Bool) → is_seen seen entry ≡ b
    → (if b then Ok taken else claimed file named taken entry.pages) ≡ Ok now → AreClaimed file base entry.pages now
payload_free file base named seen taken now entry fewer all true had is =
    let same : taken ≡ now = cc in
    record { free = seen_free file base entry seen all had; fewer = subst (λ (ps : List ℕ). Fewer file ps base) same fewer }
payload_free file base named seen taken now entry fewer all false had is = claims_free file base named entry.pages taken now fewer is

record AreListed (file base : List ℕ) (entries : List DirEntry) (now : List ℕ) : Type 0 where
  free : AreFreeOnes file base entries
  fewer : Fewer file now base

payloads_free : (file base : List ℕ) (sequence : ℕ) (dims : List Dimension) (named : ℕ) (seen : List DirEntry) → AreFreeOnes file base seen → (entries : List DirEntry) (taken now : List ℕ) → Fewer file taken base
    → payloads_in file sequence dims named seen taken entries ≡ Ok now → AreListed file base entries now
payloads_free file base sequence dims named seen all [] taken now fewer is =
    let same : taken ≡ now = cc in
    record { free = tt; fewer = subst (λ (ps : List ℕ). Fewer file ps base) same fewer }
payloads_free file base sequence dims named seen all (entry ∷ entries) taken now fewer is =
    let s = entry_steps file sequence dims named seen taken entry entries now is in
    let c = payload_free file base named seen taken s.after entry fewer all (is_seen seen entry) refl s.claims in
    let d = payloads_free file base sequence dims named seen all entries s.after now c.fewer s.rest in
    record { free = (c.free, d.free); fewer = d.fewer }

-- ---- directories

one_list : (file base : List ℕ) (entries : List DirEntry) → AreFreeOnes file base entries → AllByRecursion (IsFree file base) (flat_map (λ e. e.pages) entries)
one_list file base [] all = tt
one_list file base (e ∷ entries) all = both_all (IsFree file base) e.pages (flat_map (λ x. x.pages) entries) all.0 (one_list file base entries all.1)

record IsFreeOne (file base : List ℕ) (at : BlobAt) (listed : Listed) : Type 0 where
  own : AllByRecursion (IsFree file base) at.pages
  entries : AreFreeOnes file base listed.directory.entries
  fewer : Fewer file listed.taken base

directory_free : (file base : List ℕ) (rules : Rules) (dims : List Dimension) (seen : List DirEntry) (taken : List ℕ) (at : BlobAt) (listed : Listed) → AreFreeOnes file base seen → Fewer file taken base
    → directory_from file rules dims seen taken at ≡ Ok listed → IsFreeOne file base at listed
directory_free file base rules dims seen taken at listed all fewer is =
    let s = directory_steps file rules dims seen taken at listed is in
    let c = claims_free file base rules.first at.pages taken s.own fewer s.claims in
    let d = payloads_free file base rules.sequence dims (slice_index at.pages 0) seen all s.directory.entries s.own s.all c.fewer s.payloads in
    subst (IsFreeOne file base at) s.is (record { own = c.free; entries = d.free; fewer = d.fewer })

pub record IsFreeRow (file base : List ℕ) (blobs : List BlobAt) (row : Row) : Type 0 where
  pub pages : AllByRecursion (IsFree file base) (all_of (by_pairs version_pages blobs row.directories))
  pub fewer : Fewer file row.taken base

pub row_free : (file base : List ℕ) (rules : Rules) (dims : List Dimension) (blobs : List BlobAt) (seen : List DirEntry) (taken : List ℕ) (row : Row) → AreFreeOnes file base seen → Fewer file taken base
    → row_in file rules dims seen taken blobs ≡ Ok row → IsFreeRow file base blobs row
row_free file base rules dims [] seen taken row all fewer is =
    let same : record { directories = []; taken = taken } ≡ row = cc in
    subst (IsFreeRow file base []) same (record { pages = tt; fewer = fewer })
row_free file base rules dims (at ∷ blobs) seen taken row all fewer is =
    let s = row_steps file rules dims seen taken at blobs row is in
    let d = directory_free file base rules dims seen taken at s.first all fewer s.found in
    let later = row_free file base rules dims blobs (s.first.directory.entries ++ seen) s.first.taken s.later
    (both_all (λ (e : DirEntry). AllByRecursion (IsFree file base) e.pages) s.first.directory.entries seen d.entries all) d.fewer s.rest in
    let front = at.pages ++ flat_map (λ (e : DirEntry). e.pages) s.first.directory.entries in
    subst (IsFreeRow file base (at ∷ blobs)) s.is (record {
      pages = both_all (IsFree file base) front (all_of (by_pairs version_pages blobs s.later.directories))
          (both_all (IsFree file base) at.pages (flat_map (λ (e : DirEntry). e.pages) s.first.directory.entries) d.own (one_list file base s.first.directory.entries d.entries)) later.pages;
      fewer = later.fewer;
    })

rows_free : (file base : List ℕ) (rules : Rules) (arrays : List CatalogArray) (taken : List ℕ) (rows : List (List Directory)) → Fewer file taken base → rows_in file rules taken arrays ≡ Ok rows
    → AllByRecursion (IsFree file base) (all_of (by_pairs row_pages arrays rows))
rows_free file base rules [] taken rows fewer is = tt
rows_free file base rules (array ∷ arrays) taken rows fewer is =
    let s = rows_steps file rules taken array arrays rows is in
    let r = row_free file base rules array.entry.schema.dimensions array.directories [] taken s.row tt fewer s.found in
    let later = rows_free file base rules arrays s.row.taken s.later r.fewer s.rest in
    subst (λ (rs : List (List Directory)). AllByRecursion (IsFree file base) (all_of (by_pairs row_pages (array ∷ arrays) rs))) s.is
    (both_all (IsFree file base) (all_of (by_pairs version_pages array.directories s.row.directories)) (all_of (by_pairs row_pages arrays s.later)) r.pages later)

-- ---- the catalogue's pages

abbrev pub has : List ℕ → ℕ → Bool
has pages p = list_any (λ page. nat_eq page p) pages

pub has_either : (xs ys : List ℕ) (p : ℕ) → has (xs ++ ys) p ≡ (has xs p || has ys p)
has_either [] ys p = refl
has_either (x ∷ xs) ys p = ap (λ (b : Bool). nat_eq x p || b) (has_either xs ys p) ∙ joined (nat_eq x p) (has xs p) (has ys p)
  where
    joined : (a b c : Bool) → (a || (b || c)) ≡ ((a || b) || c)
    joined true b c = refl
    joined false b c = refl

pub taken_by : (file : List ℕ) (log : ℕ) (records : List RecordAt) (taken : List ℕ) (catalog : Catalog) (logged : Logged) (p : ℕ) → logged_in file log taken catalog records ≡ Ok logged
    → has logged.taken p ≡ (has (all_of logged.pages) p || has taken p)
taken_by file log [] taken catalog logged p is =
    let same : record { pages = []; catalog = catalog; taken = taken } ≡ logged = cc in
    subst (λ (l : Logged). has l.taken p ≡ (has (all_of l.pages) p || has taken p)) same refl
taken_by file log (at ∷ records) taken catalog logged p is =
    let s = record_steps file log taken catalog at records logged is in
    let later = taken_by file log records (s.pages ++ taken) _ s.later p s.rest in
    subst (λ (l : Logged). has l.taken p ≡ (has (all_of l.pages) p || has taken p)) s.is
    (later ∙ ap (λ (b : Bool). has (all_of s.later.pages) p || b) (has_either s.pages taken p)
    ∙ turned (has (all_of s.later.pages) p) (has s.pages p) (has taken p) ∙ ap (λ (b : Bool). b || has taken p) (sym (has_either s.pages (all_of s.later.pages) p)))
  where
    turned : (a b c : Bool) → (a || (b || c)) ≡ ((b || a) || c)
    turned true true c = refl
    turned true false c = refl
    turned false true c = refl
    turned false false c = refl

-- what is taken behind the records: the log page and the catalogue's
pub taken_are : (file : List ℕ) (slots : Slots) (found : Found) (steps : FoundSteps file slots found) (p : ℕ) → has steps.logged.taken p ≡ has (slots.current.root.log ∷ catalogue_pages found) p
taken_are file slots found steps p =
    let log = slots.current.root.log in
    let a = taken_by file log slots.records (found.chain ++ log ∷ []) steps.base steps.logged p steps.logs in
    let b = has_either found.chain (log ∷ []) p in
    let c = has_either found.chain (all_of found.logged) p in
    let d : has (all_of steps.logged.pages) p ≡ has (all_of found.logged) p = ap (λ (ps : List (List ℕ)). has (all_of ps) p) steps.pages in
    a ∙ ap (λ (x : Bool). has (all_of steps.logged.pages) p || x) b ∙ ap (λ (x : Bool). x || (has found.chain p || (nat_eq log p || false))) d
    ∙ turned (has (all_of found.logged) p) (has found.chain p) (nat_eq log p) ∙ ap (λ (x : Bool). nat_eq log p || x) (sym c)
  where
    turned : (a b c : Bool) → (a || (b || (c || false))) ≡ (c || (b || a))
    turned true true true = refl
    turned true true false = refl
    turned true false true = refl
    turned true false false = refl
    turned false true true = refl
    turned false true false = refl
    turned false false true = refl
    turned false false false = refl

pub stored_apart : (file : List ℕ) (slots : Slots) (found : Found) → found_in file slots ≡ Ok found → AllByRecursion (λ p. names_page page_size file (slots.current.root.log ∷ catalogue_pages found) p ≡ true) (stored_pages found)
stored_apart file slots found is =
    let s = found_steps file slots found is in
    let log = slots.current.root.log in
    let rules : Rules = record { first = slots.current.root.first; sequence = sequence_of slots } in
    let fewer : Fewer file s.logged.taken (log ∷ catalogue_pages found) = λ p names.
    ap (λ (x : Bool). nat_lt 0 p && has_page page_size file p && not x) (sym (taken_are file slots found s p)) ∙ names in
    subst (λ (k : Catalog). AllByRecursion (IsFree file (log ∷ catalogue_pages found)) (all_of (by_pairs row_pages k.arrays found.directories))) s.catalog
    (rows_free file (log ∷ catalogue_pages found) rules s.logged.catalog.arrays s.logged.taken found.directories fewer s.rows)
