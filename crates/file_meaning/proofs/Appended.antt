-- One more directory behind those of an array.
use Rattle.std.proofs.Common.{◌≡◌, ℕ, Bool, true, false, cond, not, ◌||◌, List, [], ◌∷◌, ◌++◌, length, slice_index, refl, sym, ◌∙◌, ap, subst}
use Rattle.std.specs.Prelude.{if◌then◌else◌, Ok, Err}
use Rattle.std.specs.List.{AllByRecursion, filter, flat_map}
use Rattle.file_items.specs.Items.{◌>>=◌}
use Rattle.cell_values.specs.declared.schema.Dimension.{Dimension}
use Rattle.page_file.specs.Pages.{page_size, blob}
use Rattle.chunk_map.specs.declared.directory.DirEntry.{DirEntry}
use Rattle.chunk_map.specs.declared.directory.Directory.{Directory}
use Rattle.chunk_map.specs.Table.{directory_in}
use Rattle.version_catalog.specs.declared.rules.catalog.BlobAt.{BlobAt}
use Rattle.file_meaning.specs.Opening.{blamed, claimed, is_same, is_seen, is_entry, payload_in, payloads_in, Listed, Rules, directory_from, Row, row_in}
use Rattle.file_meaning.proofs.Steps.{then_is}
use Rattle.file_meaning.proofs.Elsewhere.{row_steps}
use Rattle.file_meaning.proofs.Free.{MayClaim, with_pages, with_both, claims, first_claims, later_claims}

-- ---- which entries a row has seen

-- the entries of some directories, the last one's first, before some others
abbrev pub entries_back : List Directory → List DirEntry → List DirEntry
entries_back [] seen = seen
entries_back (d ∷ row) seen = entries_back row (d.entries ++ seen)

abbrev pub entries_in : List Directory → List DirEntry
entries_in row = flat_map (λ d. d.entries) row

pub seen_either : (xs ys : List DirEntry) (e : DirEntry) → is_seen (xs ++ ys) e ≡ (is_seen xs e || is_seen ys e)
seen_either [] ys e = refl
seen_either (x ∷ xs) ys e = ap (λ (b : Bool). is_same e x || b) (seen_either xs ys e) ∙ joined (is_same e x) (is_seen xs e) (is_seen ys e)
  where
    joined : (a b c : Bool) → (a || (b || c)) ≡ ((a || b) || c)
    joined true b c = refl
    joined false b c = refl

seen_back : (row : List Directory) (seen : List DirEntry) (e : DirEntry) → is_seen (entries_back row seen) e ≡ (is_seen (entries_in row) e || is_seen seen e)
seen_back [] seen e = refl
seen_back (d ∷ row) seen e =
    seen_back row (d.entries ++ seen) e ∙ ap (λ (b : Bool). is_seen (entries_in row) e || b) (seen_either d.entries seen e)
    ∙ turned (is_seen (entries_in row) e) (is_seen d.entries e) (is_seen seen e) ∙ ap (λ (b : Bool). b || is_seen seen e) (sym (seen_either d.entries (entries_in row) e))
  where
    turned : (a b c : Bool) → (a || (b || c)) ≡ ((b || a) || c)
    turned true true c = refl
    turned true false c = refl
    turned false true c = refl
    turned false false c = refl

pub seen_all : (row : List Directory) (e : DirEntry) → is_seen (entries_back row []) e ≡ is_seen (entries_in row) e
seen_all row e = seen_back row [] e ∙ none (is_seen (entries_in row) e)
  where
    none : (b : Bool) → (b || false) ≡ b
    none true = refl
    none false = refl

-- ---- a directory whose own pages and whose new payloads' pages may be claimed

abbrev pub fresh_pages : List DirEntry → List DirEntry → List ℕ
fresh_pages before entries = flat_map (λ e. e.pages) (filter (λ e. not (is_seen before e)) entries)

payloads_new : (file : List ℕ) (sequence : ℕ) (dims : List Dimension) (named : ℕ) (seen before : List DirEntry) → ((e : DirEntry) → is_seen seen e ≡ is_seen before e) → (entries : List DirEntry) (taken : List ℕ)
    → AllByRecursion (λ e. is_entry file sequence dims e ≡ true) entries → MayClaim file taken (fresh_pages before entries)
    → payloads_in file sequence dims named seen taken entries ≡ Ok (with_pages (fresh_pages before entries) taken)
payloads_new file sequence dims named seen before same [] taken all may = refl
payloads_new file sequence dims named seen before same (e ∷ entries) taken all may =
    ap (λ (b : Bool). if b then (payload_in file named seen taken e >>= λ after. payloads_in file sequence dims named seen after entries) else Err named) all.0
    ∙ ap (λ (b : Bool). (if b then Ok taken else claimed file named taken e.pages) >>= λ after. payloads_in file sequence dims named seen after entries) (same e)
    ∙ by_test (is_seen before e) (λ t m. payloads_new file sequence dims named seen before same entries t all.1 m) may
  where
    by_test : (b : Bool) → ((t : List ℕ) → MayClaim file t (fresh_pages before entries) → payloads_in file sequence dims named seen t entries ≡ Ok (with_pages (fresh_pages before entries) t))
        → MayClaim file taken (flat_map (λ x. x.pages) (cond (not b) (e ∷ filter (λ x. not (is_seen before x)) entries) (filter (λ x. not (is_seen before x)) entries)))
        → ((if b then Ok taken else claimed file named taken e.pages) >>= λ after. payloads_in file sequence dims named seen after entries)
        ≡ Ok (with_pages (flat_map (λ x. x.pages) (cond (not b) (e ∷ filter (λ x. not (is_seen before x)) entries) (filter (λ x. not (is_seen before x)) entries))) taken)
    by_test true later m = later taken m
    by_test false later m =
        then_is (claimed file named taken e.pages) (λ after. payloads_in file sequence dims named seen after entries) (with_pages e.pages taken) (claims file named e.pages taken (first_claims file e.pages (fresh_pages before entries) taken m))
        ∙ later (with_pages e.pages taken) (later_claims file e.pages (fresh_pages before entries) taken m)
        ∙ ap Ok (sym (with_both e.pages (fresh_pages before entries) taken))

-- a directory that is read so, each of whose entries is one
pub record IsNew (file : List ℕ) (rules : Rules) (dims : List Dimension) (at : BlobAt) (directory : Directory) : Type 0 where
  pub read : directory_in (length dims) (blob page_size file at.pages at.length) ≡ Ok directory
  pub entries : AllByRecursion (λ e. is_entry file rules.sequence dims e ≡ true) directory.entries

pub directory_new : (file : List ℕ) (rules : Rules) (dims : List Dimension) (seen before : List DirEntry) (taken : List ℕ) (at : BlobAt) (directory : Directory) → ((e : DirEntry) → is_seen seen e ≡ is_seen before e)
    → IsNew file rules dims at directory → MayClaim file taken (at.pages ++ fresh_pages before directory.entries)
    → directory_from file rules dims seen taken at ≡ Ok (record { directory = directory; taken = with_pages (at.pages ++ fresh_pages before directory.entries) taken })
directory_new file rules dims seen before taken at directory same new may =
    let fresh = fresh_pages before directory.entries in
    let own = with_pages at.pages taken in
    then_is (claimed file rules.first taken at.pages) _ own (claims file rules.first at.pages taken (first_claims file at.pages fresh taken may))
    ∙ then_is (blamed (slice_index at.pages 0) (directory_in (length dims) (blob page_size file at.pages at.length))) _ directory (ap (blamed (slice_index at.pages 0)) new.read)
    ∙ then_is (payloads_in file rules.sequence dims (slice_index at.pages 0) seen own directory.entries) _ (with_pages fresh own)
    (payloads_new file rules.sequence dims (slice_index at.pages 0) seen before same directory.entries own new.entries (later_claims file at.pages fresh taken may))
    ∙ ap (λ (ts : List ℕ). Ok (record { directory = directory; taken = ts })) (sym (with_both at.pages fresh taken))

-- ---- the row

pub row_appended : (file : List ℕ) (rules : Rules) (dims : List Dimension) (blobs : List BlobAt) (seen : List DirEntry) (taken : List ℕ) (row : Row) (at : BlobAt) (listed : Listed)
    → row_in file rules dims seen taken blobs ≡ Ok row → directory_from file rules dims (entries_back row.directories seen) row.taken at ≡ Ok listed
    → row_in file rules dims seen taken (blobs ++ at ∷ []) ≡ Ok (record { directories = row.directories ++ listed.directory ∷ []; taken = listed.taken })
row_appended file rules dims [] seen taken row at listed is next =
    let same : record { directories = []; taken = taken } ≡ row = cc in
    let here : directory_from file rules dims seen taken at ≡ Ok listed
    = subst (λ (r : Row). directory_from file rules dims (entries_back r.directories seen) r.taken at ≡ Ok listed) (sym same) next in
    subst (λ (r : Row). row_in file rules dims seen taken (at ∷ []) ≡ Ok (record { directories = r.directories ++ listed.directory ∷ []; taken = listed.taken })) same
    (then_is (directory_from file rules dims seen taken at) (λ first. row_in file rules dims (first.directory.entries ++ seen) first.taken [] >>= λ later. Ok (record { directories = first.directory ∷ later.directories; taken = later.taken })) listed here)
row_appended file rules dims (b ∷ blobs) seen taken row at listed is next =
    let s = row_steps file rules dims seen taken b blobs row is in
    let more : Row = record { directories = s.later.directories ++ listed.directory ∷ []; taken = listed.taken } in
    let here : directory_from file rules dims (entries_back s.later.directories (s.first.directory.entries ++ seen)) s.later.taken at ≡ Ok listed
    = subst (λ (r : Row). directory_from file rules dims (entries_back r.directories seen) r.taken at ≡ Ok listed) (sym s.is) next in
    let later = row_appended file rules dims blobs (s.first.directory.entries ++ seen) s.first.taken s.later at listed s.rest here in
    subst (λ (r : Row). row_in file rules dims seen taken (b ∷ (blobs ++ at ∷ [])) ≡ Ok (record { directories = r.directories ++ listed.directory ∷ []; taken = listed.taken })) s.is
    (then_is (directory_from file rules dims seen taken b) _ s.first s.found
    ∙ then_is (row_in file rules dims (s.first.directory.entries ++ seen) s.first.taken (blobs ++ at ∷ [])) _ more later)
