-- Directories are found again where more pages are taken, none of which is theirs.
use Rattle.std.proofs.Common.{◌≡◌, ℕ, suc, Bool, true, false, List, [], ◌∷◌, ◌++◌, length, slice_index, refl, sym, ◌∙◌, ap, subst, arith}
use Rattle.std.specs.Prelude.{if◌then◌else◌, ◌&&◌, ◌||◌, not, nat_eq, nat_lt, Result, Ok, Err}
use Rattle.std.specs.List.{AllByRecursion, list_any}
use Rattle.file_items.specs.Items.{◌>>=◌}
use Rattle.cell_values.specs.declared.schema.Dimension.{Dimension}
use Rattle.page_chain.specs.Places.{IsNone}
use Rattle.page_file.specs.Pages.{page_size, has_page, blob}
use Rattle.page_file.specs.Chains.{names_page}
use Rattle.chunk_map.specs.declared.directory.DirEntry.{DirEntry}
use Rattle.chunk_map.specs.declared.directory.Directory.{Directory}
use Rattle.chunk_map.specs.Table.{directory_in}
use Rattle.version_catalog.specs.declared.rules.catalog.BlobAt.{BlobAt}
use Rattle.version_catalog.specs.declared.rules.catalog.CatalogArray.{CatalogArray}
use Rattle.chunk_source.specs.Boxes.{by_pairs}
use Rattle.file_meaning.specs.Opening.{blamed, claimed, is_seen, payload_in, payloads_in, Listed, Rules, directory_from, Row, row_in, rows_in, all_of, version_pages, row_pages}
use Rattle.file_meaning.proofs.Steps.{then_is}
use Rattle.file_meaning.proofs.Parts.{claim_parts, front_all, rest_all}
use Rattle.file_meaning.proofs.Elsewhere.{entry_steps, directory_steps, row_steps, rows_steps, AreApart, NoneOf, IsKept, row_apart}
use Rattle.page_file.proofs.LinkLaws.{unequal}

-- each page that is free beside the one list, and none of some others, is free beside the other list
abbrev pub Beside : List ℕ → List ℕ → List ℕ → List ℕ → Type 0
Beside extra file more less = (p : ℕ) → IsNone extra p → names_page page_size file more p ≡ true → names_page page_size file less p ≡ true

parts : (x b rest : Bool) → (x && not (b || rest)) ≡ true → (b ≡ false) × ((x && not rest) ≡ true)
parts true true rest is = absurd cc
parts true false rest is = (refl, is)
parts false b rest is = absurd cc

pub fewer_with : (extra file more less : List ℕ) (q : ℕ) → Beside extra file more less → Beside extra file (q ∷ more) (q ∷ less)
fewer_with extra file more less q fewer p none names =
    let x = nat_lt 0 p && has_page page_size file p in
    let e = parts x (nat_eq q p) (list_any (λ page. nat_eq page p) more) names in
    ap (λ (b : Bool). nat_lt 0 p && has_page page_size file p && not (b || list_any (λ page. nat_eq page p) less)) e.0 ∙ fewer p none e.1

record Claims (extra file : List ℕ) (now : List ℕ) (step : Result (List ℕ) ℕ) : Type 0 where
  others : List ℕ
  is : step ≡ Ok others
  fewer : Beside extra file now others

claims_fewer : (extra file : List ℕ) (named : ℕ) (pages more less now : List ℕ) → AllByRecursion (IsNone extra) pages → Beside extra file more less → claimed file named more pages ≡ Ok now → Claims extra file now (claimed file named less pages)
claims_fewer extra file named [] more less now apart fewer is =
    let same : more ≡ now = cc in
    record { others = less; is = refl; fewer = subst (λ (ps : List ℕ). Beside extra file ps less) same fewer }
claims_fewer extra file named (p ∷ pages) more less now apart fewer is =
    let e = claim_parts file named more pages now p is in
    let c = claims_fewer extra file named pages (p ∷ more) (p ∷ less) now apart.1 (fewer_with extra file more less p fewer) e.1 in
    record { others = c.others; is = ap (λ (b : Bool). if b then claimed file named (p ∷ less) pages else Err named) (fewer p apart.0 e.0) ∙ c.is; fewer = c.fewer }

payload_fewer : (extra file : List ℕ) (named : ℕ) (pages more less now : List ℕ) → AllByRecursion (IsNone extra) pages → Beside extra file more less → (b : Bool) → (if b then Ok more else claimed file named more pages) ≡ Ok now
    → Claims extra file now (if b then Ok less else claimed file named less pages)
payload_fewer extra file named pages more less now apart fewer true is =
    let same : more ≡ now = cc in
    record { others = less; is = refl; fewer = subst (λ (ps : List ℕ). Beside extra file ps less) same fewer }
payload_fewer extra file named pages more less now apart fewer false is = claims_fewer extra file named pages more less now apart fewer is

payloads_fewer : (extra file : List ℕ) (sequence : ℕ) (dims : List Dimension) (named : ℕ) (seen entries : List DirEntry) (more less now : List ℕ) → AllByRecursion (λ e. AllByRecursion (IsNone extra) e.pages) entries → Beside extra file more less
    → payloads_in file sequence dims named seen more entries ≡ Ok now → Claims extra file now (payloads_in file sequence dims named seen less entries)
payloads_fewer extra file sequence dims named seen [] more less now apart fewer is =
    let same : more ≡ now = cc in
    record { others = less; is = refl; fewer = subst (λ (ps : List ℕ). Beside extra file ps less) same fewer }
payloads_fewer extra file sequence dims named seen (entry ∷ entries) more less now apart fewer is =
    let s = entry_steps file sequence dims named seen more entry entries now is in
    let c = payload_fewer extra file named entry.pages more less s.after apart.0 fewer (is_seen seen entry) s.claims in
    let d = payloads_fewer extra file sequence dims named seen entries s.after c.others now apart.1 c.fewer s.rest in
    record {
      others = d.others;
      is = ap (λ (b : Bool). if b then (payload_in file named seen less entry >>= λ after. payloads_in file sequence dims named seen after entries) else Err named) s.tested
          ∙ then_is (payload_in file named seen less entry) (λ after. payloads_in file sequence dims named seen after entries) c.others c.is ∙ d.is;
      fewer = d.fewer;
    }

record Lists (extra file : List ℕ) (listed : Listed) (step : Result Listed ℕ) : Type 0 where
  others : Listed
  is : step ≡ Ok others
  same : others.directory ≡ listed.directory
  fewer : Beside extra file listed.taken others.taken

directory_fewer : (extra file : List ℕ) (rules : Rules) (dims : List Dimension) (seen : List DirEntry) (more less : List ℕ) (at : BlobAt) (listed : Listed) → AllByRecursion (IsNone extra) at.pages → AllByRecursion (λ e. AllByRecursion (IsNone extra) e.pages) listed.directory.entries → Beside extra file more less
    → directory_from file rules dims seen more at ≡ Ok listed → Lists extra file listed (directory_from file rules dims seen less at)
directory_fewer extra file rules dims seen more less at listed own entries fewer is =
    let s = directory_steps file rules dims seen more at listed is in
    let c = claims_fewer extra file rules.first at.pages more less s.own own fewer s.claims in
    let d = payloads_fewer extra file rules.sequence dims (slice_index at.pages 0) seen s.directory.entries s.own c.others s.all (subst (λ (l : Listed). AllByRecursion (λ e. AllByRecursion (IsNone extra) e.pages) l.directory.entries) (sym s.is) entries) c.fewer s.payloads in
    let here : Lists extra file (record { directory = s.directory; taken = s.all }) (directory_from file rules dims seen less at) = record {
      others = record { directory = s.directory; taken = d.others };
      is = then_is (claimed file rules.first less at.pages) _ c.others c.is
          ∙ then_is (blamed (slice_index at.pages 0) (directory_in (length dims) (blob page_size file at.pages at.length))) _ s.directory s.read
          ∙ then_is (payloads_in file rules.sequence dims (slice_index at.pages 0) seen c.others s.directory.entries) _ d.others d.is;
      same = refl;
      fewer = d.fewer;
    } in
    subst (λ (l : Listed). Lists extra file l (directory_from file rules dims seen less at)) s.is here

pub record Rows (extra file : List ℕ) (row : Row) (step : Result Row ℕ) : Type 0 where
  pub others : Row
  pub is : step ≡ Ok others
  pub same : others.directories ≡ row.directories
  pub fewer : Beside extra file row.taken others.taken

pub row_fewer : (extra file : List ℕ) (rules : Rules) (dims : List Dimension) (blobs : List BlobAt) (seen : List DirEntry) (more less : List ℕ) (row : Row) → AllByRecursion (λ at. AllByRecursion (IsNone extra) at.pages) blobs → AllByRecursion (λ d. AllByRecursion (λ e. AllByRecursion (IsNone extra) e.pages) d.entries) row.directories → Beside extra file more less
    → row_in file rules dims seen more blobs ≡ Ok row → Rows extra file row (row_in file rules dims seen less blobs)
row_fewer extra file rules dims [] seen more less row own entries fewer is =
    let same : record { directories = []; taken = more } ≡ row = cc in
    subst (λ (r : Row). Rows extra file r (row_in file rules dims seen less [])) same (record { others = record { directories = []; taken = less }; is = refl; same = refl; fewer = fewer })
row_fewer extra file rules dims (at ∷ blobs) seen more less row own entries fewer is =
    let s = row_steps file rules dims seen more at blobs row is in
    let all : AllByRecursion (λ d. AllByRecursion (λ e. AllByRecursion (IsNone extra) e.pages) d.entries) (s.first.directory ∷ s.later.directories)
    = subst (λ (r : Row). AllByRecursion (λ d. AllByRecursion (λ e. AllByRecursion (IsNone extra) e.pages) d.entries) r.directories) (sym s.is) entries in
    let c = directory_fewer extra file rules dims seen more less at s.first own.0 all.0 fewer s.found in
    let rest : row_in file rules dims (c.others.directory.entries ++ seen) s.first.taken blobs ≡ Ok s.later
    = subst (λ (d : Directory). row_in file rules dims (d.entries ++ seen) s.first.taken blobs ≡ Ok s.later) (sym c.same) s.rest in
    let d = row_fewer extra file rules dims blobs (c.others.directory.entries ++ seen) s.first.taken c.others.taken s.later own.1 all.1 c.fewer rest in
    let here : Rows extra file (record { directories = s.first.directory ∷ s.later.directories; taken = s.later.taken }) (row_in file rules dims seen less (at ∷ blobs)) = record {
      others = record { directories = c.others.directory ∷ d.others.directories; taken = d.others.taken };
      is = then_is (directory_from file rules dims seen less at) _ c.others c.is ∙ then_is (row_in file rules dims (c.others.directory.entries ++ seen) c.others.taken blobs) _ d.others d.is;
      same = ap (λ (x : Directory). x ∷ d.others.directories) c.same ∙ ap (λ (xs : List Directory). s.first.directory ∷ xs) d.same;
      fewer = d.fewer;
    } in
    subst (λ (r : Row). Rows extra file r (row_in file rules dims seen less (at ∷ blobs))) s.is here

pub kept_apart : (extra file : List ℕ) (row : List Directory) → AllByRecursion (IsKept extra file) row → AllByRecursion (λ d. AllByRecursion (λ e. AllByRecursion (IsNone extra) e.pages) d.entries) row
unfolding AreApart
kept_apart extra file [] all = tt
kept_apart extra file (d ∷ row) all = (all.0.apart, kept_apart extra file row all.1)

pub rows_fewer : (extra file : List ℕ) (rules : Rules) (arrays : List CatalogArray) (more less : List ℕ) (rows : List (List Directory)) → AllByRecursion (IsNone extra) (all_of (by_pairs row_pages arrays rows)) → Beside extra file more less
    → rows_in file rules more arrays ≡ Ok rows → rows_in file rules less arrays ≡ Ok rows
unfolding AreApart NoneOf
rows_fewer extra file rules [] more less rows apart fewer is = is
rows_fewer extra file rules (array ∷ arrays) more less rows apart fewer is =
    let s = rows_steps file rules more array arrays rows is in
    let dims = array.entry.schema.dimensions in
    let front = all_of (by_pairs version_pages array.directories s.row.directories) in
    let behind = all_of (by_pairs row_pages arrays s.later) in
    let all : AllByRecursion (IsNone extra) (front ++ behind) = subst (λ (rs : List (List Directory)). AllByRecursion (IsNone extra) (all_of (by_pairs row_pages (array ∷ arrays) rs))) (sym s.is) apart in
    let mine = row_apart extra file rules dims array.directories [] more s.row s.found (front_all (IsNone extra) front behind all) in
    let c = row_fewer extra file rules dims array.directories [] more less s.row mine.0 (kept_apart extra file s.row.directories mine.1) fewer s.found in
    let later = rows_fewer extra file rules arrays s.row.taken c.others.taken s.later (rest_all (IsNone extra) front behind all) c.fewer s.rest in
    then_is (row_in file rules dims [] less array.directories) _ c.others c.is
    ∙ then_is (rows_in file rules c.others.taken arrays) _ s.later later
    ∙ ap (λ (ds : List Directory). Ok (ds ∷ s.later)) c.same ∙ ap Ok s.is

pub beside_these : (extra file taken : List ℕ) → Beside extra file taken (extra ++ taken)
beside_these [] file taken p none names = names
beside_these (q ∷ extra) file taken p none names =
    let apart : nat_eq q p ≡ false = unequal q p (none 0 (omega arith)) in
    ap (λ (b : Bool). nat_lt 0 p && has_page page_size file p && not (b || list_any (λ page. nat_eq page p) (extra ++ taken))) apart
    ∙ beside_these extra file taken p (λ k low. none (suc k) (omega arith)) names

pub rows_with_more : (file extra taken : List ℕ) (rules : Rules) (arrays : List CatalogArray) (rows : List (List Directory)) → rows_in file rules taken arrays ≡ Ok rows → AllByRecursion (IsNone extra) (all_of (by_pairs row_pages arrays rows))
    → rows_in file rules (extra ++ taken) arrays ≡ Ok rows
rows_with_more file extra taken rules arrays rows is apart = rows_fewer extra file rules arrays taken (extra ++ taken) rows apart (beside_these extra file taken) is
