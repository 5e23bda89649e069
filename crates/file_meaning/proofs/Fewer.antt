-- What is found is found again where fewer pages are taken.
use Rattle.std.proofs.Common.{◌≡◌, ◌≢◌, ◌<◌, ℕ, zero, suc, Bool, true, false, List, [], ◌∷◌, ◌++◌, length, slice_index, refl, sym, ◌∙◌, ap, subst, arith}
use Rattle.std.specs.Prelude.{if◌then◌else◌, ◌&&◌, ◌||◌, not, nat_eq, nat_lt, Result, Ok, Err}
use Rattle.std.specs.List.{list_any}
use Rattle.std.proofs.lemmas.Bool.Decides.{nat_tests}
use Rattle.file_items.specs.Items.{◌>>=◌}
use Rattle.cell_values.specs.declared.schema.Dimension.{Dimension}
use Rattle.page_chain.specs.declared.slots.layout.sides.Side.{Side}
use Rattle.page_chain.specs.declared.slots.layout.sides.Format.TheVariants.{One, Two}
use Rattle.page_chain.specs.declared.slots.layout.roots.Root.{Root}
use Rattle.page_file.specs.Pages.{page_size, has_page, blob}
use Rattle.page_file.specs.Chains.{names_page, chain, chain_bytes}
use Rattle.chunk_map.specs.declared.directory.DirEntry.{DirEntry}
use Rattle.chunk_map.specs.declared.directory.Directory.{Directory}
use Rattle.chunk_map.specs.Table.{directory_in}
use Rattle.version_catalog.specs.declared.rules.catalog.BlobAt.{BlobAt}
use Rattle.version_catalog.specs.declared.rules.catalog.CatalogArray.{CatalogArray}
use Rattle.version_catalog.specs.declared.rules.catalog.Catalog.{Catalog}
use Rattle.version_catalog.specs.Table.{catalog_in}
use Rattle.file_meaning.specs.Slots.{Slots}
use Rattle.file_meaning.specs.Opening.{blamed, Logged, claimed, is_seen, payload_in, payloads_in, Listed, Rules, directory_from, Row, row_in, rows_in, found_in, sequence_of}
use Rattle.file_meaning.specs.declared.meaning.found.Found.{Found}
use Rattle.file_meaning.proofs.Steps.{then_is}
use Rattle.file_meaning.proofs.Parts.{claim_parts}
use Rattle.file_meaning.proofs.Elsewhere.{entry_steps, directory_steps, row_steps, rows_steps, found_steps}
use Rattle.page_file.proofs.TakenPages.{fewer_taken}

-- each page that is free beside the one list is free beside the other
abbrev pub Fewer : List ℕ → List ℕ → List ℕ → Type 0
Fewer file more less = (p : ℕ) → names_page page_size file more p ≡ true → names_page page_size file less p ≡ true

parts : (x b rest : Bool) → (x && not (b || rest)) ≡ true → (b ≡ false) × ((x && not rest) ≡ true)
parts true true rest is = absurd cc
parts true false rest is = (refl, is)
parts false b rest is = absurd cc

fewer_with : (file more less : List ℕ) (q : ℕ) → Fewer file more less → Fewer file (q ∷ more) (q ∷ less)
fewer_with file more less q fewer p names =
    let x = nat_lt 0 p && has_page page_size file p in
    let e = parts x (nat_eq q p) (list_any (λ page. nat_eq page p) more) names in
    ap (λ (b : Bool). nat_lt 0 p && has_page page_size file p && not (b || list_any (λ page. nat_eq page p) less)) e.0 ∙ fewer p e.1

record Claims (file : List ℕ) (now : List ℕ) (step : Result (List ℕ) ℕ) : Type 0 where
  others : List ℕ
  is : step ≡ Ok others
  fewer : Fewer file now others

claims_fewer : (file : List ℕ) (named : ℕ) (pages more less now : List ℕ) → Fewer file more less → claimed file named more pages ≡ Ok now → Claims file now (claimed file named less pages)
claims_fewer file named [] more less now fewer is =
    let same : more ≡ now = cc in
    record { others = less; is = refl; fewer = subst (λ (ps : List ℕ). Fewer file ps less) same fewer }
claims_fewer file named (p ∷ pages) more less now fewer is =
    let e = claim_parts file named more pages now p is in
    let c = claims_fewer file named pages (p ∷ more) (p ∷ less) now (fewer_with file more less p fewer) e.1 in
    record { others = c.others; is = ap (λ (b : Bool). if b then claimed file named (p ∷ less) pages else Err named) (fewer p e.0) ∙ c.is; fewer = c.fewer }

payload_fewer : (file : List ℕ) (named : ℕ) (pages more less now : List ℕ) → Fewer file more less → (b : Bool) → (if b then Ok more else claimed file named more pages) ≡ Ok now
    → Claims file now (if b then Ok less else claimed file named less pages)
payload_fewer file named pages more less now fewer true is =
    let same : more ≡ now = cc in
    record { others = less; is = refl; fewer = subst (λ (ps : List ℕ). Fewer file ps less) same fewer }
payload_fewer file named pages more less now fewer false is = claims_fewer file named pages more less now fewer is

payloads_fewer : (file : List ℕ) (sequence : ℕ) (dims : List Dimension) (named : ℕ) (seen entries : List DirEntry) (more less now : List ℕ) → Fewer file more less
    → payloads_in file sequence dims named seen more entries ≡ Ok now → Claims file now (payloads_in file sequence dims named seen less entries)
payloads_fewer file sequence dims named seen [] more less now fewer is =
    let same : more ≡ now = cc in
    record { others = less; is = refl; fewer = subst (λ (ps : List ℕ). Fewer file ps less) same fewer }
payloads_fewer file sequence dims named seen (entry ∷ entries) more less now fewer is =
    let s = entry_steps file sequence dims named seen more entry entries now is in
    let c = payload_fewer file named entry.pages more less s.after fewer (is_seen seen entry) s.claims in
    let d = payloads_fewer file sequence dims named seen entries s.after c.others now c.fewer s.rest in
    record {
      others = d.others;
      is = ap (λ (b : Bool). if b then (payload_in file named seen less entry >>= λ after. payloads_in file sequence dims named seen after entries) else Err named) s.tested
          ∙ then_is (payload_in file named seen less entry) (λ after. payloads_in file sequence dims named seen after entries) c.others c.is ∙ d.is;
      fewer = d.fewer;
    }

record Lists (file : List ℕ) (listed : Listed) (step : Result Listed ℕ) : Type 0 where
  others : Listed
  is : step ≡ Ok others
  same : others.directory ≡ listed.directory
  fewer : Fewer file listed.taken others.taken

directory_fewer : (file : List ℕ) (rules : Rules) (dims : List Dimension) (seen : List DirEntry) (more less : List ℕ) (at : BlobAt) (listed : Listed) → Fewer file more less
    → directory_from file rules dims seen more at ≡ Ok listed → Lists file listed (directory_from file rules dims seen less at)
directory_fewer file rules dims seen more less at listed fewer is =
    let s = directory_steps file rules dims seen more at listed is in
    let c = claims_fewer file rules.first at.pages more less s.own fewer s.claims in
    let d = payloads_fewer file rules.sequence dims (slice_index at.pages 0) seen s.directory.entries s.own c.others s.all c.fewer s.payloads in
    let here : Lists file (record { directory = s.directory; taken = s.all }) (directory_from file rules dims seen less at) = record {
      others = record { directory = s.directory; taken = d.others };
      is = then_is (claimed file rules.first less at.pages) _ c.others c.is
          ∙ then_is (blamed (slice_index at.pages 0) (directory_in (length dims) (blob page_size file at.pages at.length))) _ s.directory s.read
          ∙ then_is (payloads_in file rules.sequence dims (slice_index at.pages 0) seen c.others s.directory.entries) _ d.others d.is;
      same = refl;
      fewer = d.fewer;
    } in
    subst (λ (l : Listed). Lists file l (directory_from file rules dims seen less at)) s.is here

record Rows (file : List ℕ) (row : Row) (step : Result Row ℕ) : Type 0 where
  others : Row
  is : step ≡ Ok others
  same : others.directories ≡ row.directories
  fewer : Fewer file row.taken others.taken

row_fewer : (file : List ℕ) (rules : Rules) (dims : List Dimension) (blobs : List BlobAt) (seen : List DirEntry) (more less : List ℕ) (row : Row) → Fewer file more less
    → row_in file rules dims seen more blobs ≡ Ok row → Rows file row (row_in file rules dims seen less blobs)
row_fewer file rules dims [] seen more less row fewer is =
    let same : record { directories = []; taken = more } ≡ row = cc in
    subst (λ (r : Row). Rows file r (row_in file rules dims seen less [])) same (record { others = record { directories = []; taken = less }; is = refl; same = refl; fewer = fewer })
row_fewer file rules dims (at ∷ blobs) seen more less row fewer is =
    let s = row_steps file rules dims seen more at blobs row is in
    let c = directory_fewer file rules dims seen more less at s.first fewer s.found in
    let rest : row_in file rules dims (c.others.directory.entries ++ seen) s.first.taken blobs ≡ Ok s.later
    = subst (λ (d : Directory). row_in file rules dims (d.entries ++ seen) s.first.taken blobs ≡ Ok s.later) (sym c.same) s.rest in
    let d = row_fewer file rules dims blobs (c.others.directory.entries ++ seen) s.first.taken c.others.taken s.later c.fewer rest in
    let here : Rows file (record { directories = s.first.directory ∷ s.later.directories; taken = s.later.taken }) (row_in file rules dims seen less (at ∷ blobs)) = record {
      others = record { directories = c.others.directory ∷ d.others.directories; taken = d.others.taken };
      is = then_is (directory_from file rules dims seen less at) _ c.others c.is ∙ then_is (row_in file rules dims (c.others.directory.entries ++ seen) c.others.taken blobs) _ d.others d.is;
      same = ap (λ (x : Directory). x ∷ d.others.directories) c.same ∙ ap (λ (xs : List Directory). s.first.directory ∷ xs) d.same;
      fewer = d.fewer;
    } in
    subst (λ (r : Row). Rows file r (row_in file rules dims seen less (at ∷ blobs))) s.is here

rows_fewer : (file : List ℕ) (rules : Rules) (arrays : List CatalogArray) (more less : List ℕ) (rows : List (List Directory)) → Fewer file more less → rows_in file rules more arrays ≡ Ok rows → rows_in file rules less arrays ≡ Ok rows
rows_fewer file rules [] more less rows fewer is = is
rows_fewer file rules (array ∷ arrays) more less rows fewer is =
    let s = rows_steps file rules more array arrays rows is in
    let c = row_fewer file rules array.entry.schema.dimensions array.directories [] more less s.row fewer s.found in
    let later = rows_fewer file rules arrays s.row.taken c.others.taken s.later c.fewer s.rest in
    then_is (row_in file rules array.entry.schema.dimensions [] less array.directories) _ c.others c.is
    ∙ then_is (rows_in file rules c.others.taken arrays) _ s.later later
    ∙ ap (λ (ds : List Directory). Ok (ds ∷ s.later)) c.same ∙ ap Ok s.is

-- ---- a root that is torn to format 1

names_none : (file : List ℕ) (p log : ℕ) (pages : List ℕ) → Fewer file (pages ++ log ∷ []) (pages ++ 0 ∷ [])
names_none file p log pages = go pages
  where
    zero_apart : (q : ℕ) → nat_lt 0 q ≡ true → nat_eq 0 q ≡ false
    zero_apart q is = let more : 0 < q = grind (arith, nat_tests) in grind (arith, nat_tests)

    first : (x y z : Bool) → (x && y && z) ≡ true → x ≡ true
    first true y z is = refl
    first false y z is = absurd cc

    none : Fewer file [] (0 ∷ [])
    none q names = ap (λ (b : Bool). nat_lt 0 q && has_page page_size file q && not (b || false)) (zero_apart q (first (nat_lt 0 q) (has_page page_size file q) true names)) ∙ names

    last : Fewer file (log ∷ []) (0 ∷ [])
    last q names = none q (parts (nat_lt 0 q && has_page page_size file q) (nat_eq log q) false names).1

    go : (ps : List ℕ) → Fewer file (ps ++ log ∷ []) (ps ++ 0 ∷ [])
    go [] = last
    go (q ∷ ps) = fewer_with file (ps ++ log ∷ []) (ps ++ 0 ∷ []) q (go ps)

abbrev pub two : Side → Root → Slots
two side root = record { current = record { side = side; format = Two; root = root }; records = [] }

abbrev pub one : Side → Root → Slots
one side root = record { current = record { side = side; format = One; root = record root { log = 0 } }; records = [] }

pub torn_root : (file : List ℕ) (side : Side) (root : Root) (found : Found) → found_in file (two side root) ≡ Ok found → found_in file (one side root) ≡ Ok found
unfolding found_in
torn_root file side root found is =
    let s = found_steps file (two side root) found is in
    let rules : Rules = record { first = root.first; sequence = sequence_of (two side root) } in
    let l : record { pages = []; catalog = s.base; taken = found.chain ++ root.log ∷ [] } ≡ s.logged = cc in
    let chained : chain page_size file (0 ∷ []) 0 root.first root.length ≡ Ok found.chain = fewer_taken file (root.log ∷ []) (0 ∷ []) found.chain 0 root.first root.length (λ p more none k low. apart p k more low) s.chained in
    let rows : rows_in file rules (found.chain ++ root.log ∷ []) s.base.arrays ≡ Ok found.directories = subst (λ (g : Logged). rows_in file rules g.taken g.catalog.arrays ≡ Ok found.directories) (sym l) s.rows in
    let again = rows_fewer file rules s.base.arrays (found.chain ++ root.log ∷ []) (found.chain ++ 0 ∷ []) found.directories (names_none file 0 root.log found.chain) rows in
    let pages : [] ≡ found.logged = ap (λ (g : Logged). g.pages) l ∙ s.pages in
    let catalog : s.base ≡ found.catalog = ap (λ (g : Logged). g.catalog) l ∙ s.catalog in
    then_is (chain page_size file (0 ∷ []) 0 root.first root.length) _ found.chain chained
    ∙ then_is (blamed root.first (catalog_in (chain_bytes page_size file found.chain root.length))) _ s.base s.read
    ∙ then_is (rows_in file rules (found.chain ++ 0 ∷ []) s.base.arrays) _ found.directories again
    ∙ ap (λ (ps : List (List ℕ)). Ok (record { chain = found.chain; logged = ps; catalog = s.base; directories = found.directories })) pages
    ∙ ap (λ (k : Catalog). Ok (record { chain = found.chain; logged = found.logged; catalog = k; directories = found.directories })) catalog
  where
    apart : (p k : ℕ) → 0 < p → k < 1 → slice_index (0 ∷ []) k ≢ p
    apart p zero more low same = absurd (omega (arith, more, same))
    apart p (suc k) more low same = absurd (omega arith)
