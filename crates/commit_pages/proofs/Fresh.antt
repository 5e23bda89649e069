-- The fresh pages of a commit are those that it was given.
use Rattle.std.proofs.Common.{◌≡◌, ◌∙◌, ◌⊎◌, inl, inr, IfSome, ℕ, Bool, true, false, cond, not, ◌||◌, List, [], ◌∷◌, ◌++◌, length, drop, Option, Some, None, refl, sym, ap, subst, arith}
use Rattle.std.specs.Prelude.{nat_eq}
use Rattle.std.specs.List.{AllByRecursion, filter, flat_map}
use Rattle.std.specs.declared.cmp.Ordering.{Ordering}
use Rattle.std.specs.declared.cmp.Ordering.TheVariants.{Less, Equal, Greater}
use Rattle.std.proofs.lemmas.Bool.Decides.{nat_tests}
use Rattle.std.proofs.lemmas.List.{append_assoc}
use Rattle.std.proofs.lemmas.List.Elements.{filter-append}
use Rattle.arrayvec.specs.ArrayVec.{ArrayVec}
use Rattle.array_rows.specs.Boxes.{by_pairs}
use Rattle.array_geom.specs.Geometry.{ChunkNumber}
use Rattle.array_geom.specs.Link.{number_order}
use Rattle.chunk_map.specs.declared.directory.DirEntry.{DirEntry}
use Rattle.chunk_map.specs.declared.directory.Directory.{Directory}
use Rattle.chunk_map.specs.Entries.{AreRising}
use Rattle.chunk_map.proofs.Moves.{IsBefore}
use Rattle.plan_changes.specs.Names.{Names}
use Rattle.plan_changes.specs.declared.change.Change.{Change}
use Rattle.version_reaper.specs.PageSets.{holds}
use Rattle.event_core.specs.declared.state.VersionPages.{VersionPages}
use Rattle.event_core.specs.Pages.{is_newest}
use Rattle.plan_changes.specs.Changes.{name_of}
use Rattle.page_file.specs.declared.commits.placed.Placed.{Placed}
use Rattle.page_file.specs.Commits.{pages_of}
use Rattle.commit_pages.specs.declared.pages.written.Written.{Written}
use Rattle.commit_pages.specs.declared.pages.version.NewVersion.{NewVersion}
use Rattle.commit_pages.specs.Versions.{placed, all_placed, settled, entry_of, entries_of, put_by, put_entry, put_entries, directory_of, directory_bytes, version_in, new_version, IsWritten}
use Rattle.commit_pages.specs.Commits.{chain_in, rest_of, record_bytes, catalog_bytes, record_laid, base_laid}
use Rattle.commit_pages.specs.Laws.{is_known, AreSamePages, RecordsUseTheGiven, BasesUseTheGiven}
use Rattle.commit_pages.proofs.Blobs.{pages_more, length_placed}
use Rattle.commit_pages.proofs.Chains.{record_fills, base_fills}
use Rattle.commit_pages.proofs.Directories.{pairs_rise, stores_list_theirs, inserts_put}
use Rattle.commit_pages.proofs.Same.{swapped}

-- ---- pages that a test keeps, and pages that it doesn't

abbrev AreKept : (ℕ → Bool) → List ℕ → Type 0
AreKept known = AllByRecursion (λ page. known page ≡ false)

abbrev AreDropped : (ℕ → Bool) → List ℕ → Type 0
AreDropped known = AllByRecursion (λ page. known page ≡ true)

abbrev left : (ℕ → Bool) → List ℕ → List ℕ
left known = filter (λ page. not (known page))

kept_stay : (known : ℕ → Bool) (pages : List ℕ) → AreKept known pages → left known pages ≡ pages
kept_stay known [] all = refl
kept_stay known (page ∷ pages) all =
    ap (λ (b : Bool). cond (not b) (page ∷ left known pages) (left known pages)) all.0 ∙ ap (λ (ps : List ℕ). page ∷ ps) (kept_stay known pages all.1)

dropped_go : (known : ℕ → Bool) (pages : List ℕ) → AreDropped known pages → left known pages ≡ []
dropped_go known [] all = refl
dropped_go known (page ∷ pages) all = ap (λ (b : Bool). cond (not b) (page ∷ left known pages) (left known pages)) all.0 ∙ dropped_go known pages all.1

left_append : (known : ℕ → Bool) (a b : List ℕ) → left known (a ++ b) ≡ left known a ++ left known b
left_append known a b = filter-append (λ page. not (known page)) a b

all_first : (P : ℕ → Type 0) (a b : List ℕ) → AllByRecursion P (a ++ b) → AllByRecursion P a
all_first P [] b all = tt
all_first P (x ∷ a) b all = (all.0, all_first P a b all.1)

all_rest : (P : ℕ → Type 0) (a b : List ℕ) → AllByRecursion P (a ++ b) → AllByRecursion P b
all_rest P [] b all = all
all_rest P (x ∷ a) b all = all_rest P a b all.1

-- ---- the pages of entries

abbrev entry_pages : List DirEntry → List ℕ
entry_pages entries = flat_map (λ entry. entry.pages) entries

-- an entry that hasn't a page that is left, or that comes behind
abbrev IsSilentOrBehind : (ℕ → Bool) → ChunkNumber → DirEntry → Type 0
IsSilentOrBehind known k e = (left known e.pages ≡ []) ⊎ (number_order k e.at.items ≡ Less)

put_left : (known : ℕ → Bool) (x : DirEntry) (es : List DirEntry) → AreKept known x.pages → AllByRecursion (IsSilentOrBehind known x.at.items) es
    → left known (entry_pages (put_entry x es)) ≡ x.pages ++ left known (entry_pages es)
put_left known x [] kept all = left_append known x.pages [] ∙ ap (λ (ps : List ℕ). ps ++ []) (kept_stay known x.pages kept)
put_left known x (e ∷ es) kept all = by_order (number_order x.at.items e.at.items) refl all.0 (put_left known x es kept all.1)
  where
    silent : (b : List ℕ) → left known e.pages ≡ [] → left known (e.pages ++ b) ≡ left known b
    silent b none = left_append known e.pages b ∙ ap (λ (ps : List ℕ). ps ++ left known b) none

    first : (b : List ℕ) → left known (x.pages ++ b) ≡ x.pages ++ left known b
    first b = left_append known x.pages b ∙ ap (λ (ps : List ℕ). ps ++ left known b) (kept_stay known x.pages kept)

    by_order : (t : Ordering) → number_order x.at.items e.at.items ≡ t → (left known e.pages ≡ []) ⊎ (number_order x.at.items e.at.items ≡ Less)
        → left known (entry_pages (put_entry x es)) ≡ x.pages ++ left known (entry_pages es)
        → left known (entry_pages (put_by t x e es (put_entry x es))) ≡ x.pages ++ left known (entry_pages (e ∷ es))
    by_order Less is either later = first (e.pages ++ entry_pages es)
    by_order Equal is (inl none) later = first (entry_pages es) ∙ ap (λ (ps : List ℕ). x.pages ++ ps) (sym (silent (entry_pages es) none))
    by_order Equal is (inr less) later = absurd cc
    by_order Greater is (inl none) later = silent (entry_pages (put_entry x es)) none ∙ later ∙ ap (λ (ps : List ℕ). x.pages ++ ps) (sym (silent (entry_pages es) none))
    by_order Greater is (inr less) later = absurd cc

keep_put : (P : DirEntry → Type 0) (x : DirEntry) (es : List DirEntry) → P x → AllByRecursion P es → AllByRecursion P (put_entry x es)
keep_put P x [] its all = (its, tt)
keep_put P x (e ∷ es) its all = by_order (number_order x.at.items e.at.items) (keep_put P x es its all.1)
  where
    by_order : (t : Ordering) → AllByRecursion P (put_entry x es) → AllByRecursion P (put_by t x e es (put_entry x es))
    by_order Less later = (its, all)
    by_order Equal later = (its, all.1)
    by_order Greater later = (all.0, later)

keep_all : (P : DirEntry → Type 0) (fresh old : List DirEntry) → AllByRecursion P fresh → AllByRecursion P old → AllByRecursion P (put_entries fresh old)
keep_all P [] old theirs its = its
keep_all P (x ∷ fresh) old theirs its = keep_put P x (put_entries fresh old) theirs.0 (keep_all P fresh old theirs.1 its)

map_entries : (P Q : DirEntry → Type 0) (es : List DirEntry) → ((e : DirEntry) → P e → Q e) → AllByRecursion P es → AllByRecursion Q es
map_entries P Q [] f all = tt
map_entries P Q (e ∷ es) f all = (f e all.0, map_entries P Q es f all.1)

behind_entries : (known : ℕ → Bool) (k : ChunkNumber) (es : List DirEntry) → IsBefore k es → AllByRecursion (IsSilentOrBehind known k) es
behind_entries known k [] before = tt
behind_entries known k (e ∷ es) before = (inr before.0, behind_entries known k es before.1)

old_left : (known : ℕ → Bool) (old : List DirEntry) → AllByRecursion (λ e. AreDropped known e.pages) old → left known (entry_pages old) ≡ []
old_left known [] all = refl
old_left known (e ∷ old) all =
    left_append known e.pages (entry_pages old) ∙ ap (λ (ps : List ℕ). ps ++ left known (entry_pages old)) (dropped_go known e.pages all.0) ∙ old_left known old all.1

-- of the entries of an insert those are left that are written
put_all_left : (known : ℕ → Bool) (fresh old : List DirEntry) → AreRising fresh → AllByRecursion (λ e. AreKept known e.pages) fresh → AllByRecursion (λ e. AreDropped known e.pages) old
    → left known (entry_pages (put_entries fresh old)) ≡ entry_pages fresh
put_all_left known [] old rise kept dropped = old_left known old dropped
put_all_left known (x ∷ fresh) old rise kept dropped =
    put_left known x (put_entries fresh old) kept.0
    (keep_all (IsSilentOrBehind known x.at.items) fresh old (behind_entries known x.at.items fresh rise.0)
    (map_entries (λ e. AreDropped known e.pages) (IsSilentOrBehind known x.at.items) old (λ e all. inl (dropped_go known e.pages all)) dropped))
    ∙ ap (λ (ps : List ℕ). x.pages ++ ps) (put_all_left known fresh old rise.1 kept.1 dropped)

-- ---- the pages of payloads

pairs_pages : (birth : ℕ) (ns : List (ArrayVec ℕ)) (ps : List Placed) → length ps ≡ length ns → entry_pages (by_pairs (entry_of birth) ns ps) ≡ pages_of ps
pairs_pages birth [] [] e = refl
pairs_pages birth [] (p ∷ ps) e = absurd (omega (arith, e))
pairs_pages birth (n ∷ ns) [] e = absurd (omega (arith, e))
pairs_pages birth (n ∷ ns) (p ∷ ps) e = ap (λ (qs : List ℕ). p.pages ++ qs) (pairs_pages birth ns ps (omega (arith, e)))

pairs_kept : (known : ℕ → Bool) (birth : ℕ) (ns : List (ArrayVec ℕ)) (ps : List Placed) → AreKept known (pages_of ps) → AllByRecursion (λ e. AreKept known e.pages) (by_pairs (entry_of birth) ns ps)
pairs_kept known birth [] ps all = tt
pairs_kept known birth (n ∷ ns) [] all = tt
pairs_kept known birth (n ∷ ns) (p ∷ ps) all =
    (all_first (λ page. known page ≡ false) p.pages (pages_of ps) all, pairs_kept known birth ns ps (all_rest (λ page. known page ≡ false) p.pages (pages_of ps) all))

kept_itself : (known : ℕ → Bool) (fresh : List DirEntry) → AllByRecursion (λ e. AreKept known e.pages) fresh → left known (entry_pages fresh) ≡ entry_pages fresh
kept_itself known [] all = refl
kept_itself known (e ∷ fresh) all =
    left_append known e.pages (entry_pages fresh) ∙ ap (λ (ps : List ℕ). ps ++ left known (entry_pages fresh)) (kept_stay known e.pages all.0)
    ∙ ap (λ (ps : List ℕ). e.pages ++ ps) (kept_itself known fresh all.1)

-- of the directory's entries
directory_left : (known : ℕ → Bool) (written : Written) (newest : Directory) → AreRising (entries_of written) → AllByRecursion (λ e. AreKept known e.pages) (entries_of written)
    → AllByRecursion (λ e. AreDropped known e.pages) newest.entries → left known (entry_pages (directory_of written newest).entries) ≡ entry_pages (entries_of written)
directory_left known written newest rise kept dropped = by_test written.whole refl
  where
    by_test : (b : Bool) → written.whole ≡ b → left known (entry_pages (directory_of written newest).entries) ≡ entry_pages (entries_of written)
    by_test true e = ap (λ (es : List DirEntry). left known (entry_pages es)) (stores_list_theirs written newest e) ∙ kept_itself known (entries_of written) kept
    by_test false e = ap (λ (es : List DirEntry). left known (entry_pages es)) (inserts_put written newest e) ∙ put_all_left known (entries_of written) newest.entries rise kept dropped

-- ---- a version's pages

-- those that are left are the directory's and the payloads', and its blobs have just these
record AreIts (known : ℕ → Bool) (version : NewVersion) : Type 0 where
  own : List ℕ
  payloads : List ℕ
  is_left : left known version.pages ≡ own ++ payloads
  blobs : pages_of version.blobs ≡ payloads ++ own

some_its : (known : ℕ → Bool) (pages : List ℕ) (written : Written) (newest : Directory) → IsWritten written → AllByRecursion (λ e. AreDropped known e.pages) newest.entries
    → AreKept known (pages_of (new_version pages (Some written) newest).blobs) → AreIts known (new_version pages (Some written) newest)
unfolding version_in
some_its known pages written newest is dropped kept =
    let here = settled pages written in
    let behind = drop (length (pages_of written.payloads)) pages in
    let own = placed behind (directory_bytes here newest) in
    let payloads = all_placed pages written.payloads in
    let both : pages_of (payloads ++ own ∷ []) ≡ pages_of payloads ++ own.pages = pages_more payloads own in
    let kept' : AreKept known (pages_of payloads ++ own.pages) = subst (AreKept known) both kept in
    let theirs : AreKept known (pages_of payloads) = all_first (λ page. known page ≡ false) (pages_of payloads) own.pages kept' in
    let its : AreKept known own.pages = all_rest (λ page. known page ≡ false) (pages_of payloads) own.pages kept' in
    let each : length payloads ≡ length written.numbers = length_placed pages written.payloads ∙ is.each in
    record {
      own = own.pages;
      payloads = pages_of payloads;
      is_left = left_append known own.pages (entry_pages (directory_of here newest).entries)
          ∙ ap (λ (ps : List ℕ). ps ++ left known (entry_pages (directory_of here newest).entries)) (kept_stay known own.pages its)
          ∙ ap (λ (ps : List ℕ). own.pages ++ ps)
          (directory_left known here newest (pairs_rise written.birth written.numbers payloads is.rising) (pairs_kept known written.birth written.numbers payloads theirs) dropped
          ∙ pairs_pages written.birth written.numbers payloads each);
      blobs = both;
    }

its : (known : ℕ → Bool) (pages : List ℕ) (written : Option Written) (newest : Directory) → IfSome written IsWritten → AllByRecursion (λ e. AreDropped known e.pages) newest.entries
    → AreKept known (pages_of (new_version pages written newest).blobs) → AreIts known (new_version pages written newest)
its known pages None newest is dropped kept = record { own = []; payloads = []; is_left = refl; blobs = refl }
its known pages (Some written) newest is dropped kept = some_its known pages written newest is dropped kept

-- ---- the catalogue's pages

more_known : (b c : Bool) → c ≡ true → (b || c) ≡ true
more_known true c e = refl
more_known false c e = e

held_in : (x : ℕ) (all pages : List ℕ) → AllByRecursion (λ page. holds all page ≡ true) pages → AllByRecursion (λ page. holds (x ∷ all) page ≡ true) pages
held_in x all [] held = tt
held_in x all (page ∷ pages) held = (more_known (nat_eq x page) (holds all page) held.0, held_in x all pages held.1)

same_page : (a b : ℕ) → a ≡ b → nat_eq a b ≡ true
same_page a b is = grind (arith, nat_tests)

all_held : (pages : List ℕ) → AllByRecursion (λ page. holds pages page ≡ true) pages
all_held [] = tt
all_held (x ∷ pages) = (ap (λ (b : Bool). b || holds pages x) (same_page x x refl), held_in x pages pages (all_held pages))

known_catalogue : (names : Names) (versions : List VersionPages) (catalogue : List ℕ) (change : Change) (pages : List ℕ) → AllByRecursion (λ page. holds catalogue page ≡ true) pages
    → AreDropped (is_known names versions catalogue change) pages
known_catalogue names versions catalogue change [] held = tt
known_catalogue names versions catalogue change (page ∷ pages) held =
    (more_known (is_newest names versions (name_of change) page) (holds catalogue page) held.0, known_catalogue names versions catalogue change pages held.1)

-- ---- all pages

-- a version's pages and those of the catalogue, where the chain fills what the version leaves of the given ones
all_given : (known : ℕ → Bool) (version : NewVersion) (chain catalogue given : List ℕ) → AreIts known version → left known catalogue ≡ chain → pages_of version.blobs ++ chain ≡ given
    → AreSamePages (left known (version.pages ++ catalogue)) given
all_given known version chain catalogue given its more fills =
    let fresh : left known (version.pages ++ catalogue) ≡ its.own ++ (its.payloads ++ chain) =
    left_append known version.pages catalogue ∙ ap (λ (ps : List ℕ). ps ++ left known catalogue) its.is_left ∙ ap (λ (ps : List ℕ). (its.own ++ its.payloads) ++ ps) more
    ∙ append_assoc its.own its.payloads chain in
    let all : its.payloads ++ (its.own ++ chain) ≡ given = sym (append_assoc its.payloads its.own chain) ∙ ap (λ (ps : List ℕ). ps ++ chain) (sym its.blobs) ∙ fills in
    subst (λ (ps : List ℕ). AreSamePages ps given) (sym fresh)
    (subst (AreSamePages (its.own ++ (its.payloads ++ chain))) all (swapped its.own its.payloads chain))

pub records_use_the_given : RecordsUseTheGiven
unfolding record_laid
records_use_the_given names versions catalog catalogue newest change written pages apart is comes count =
    let known = is_known names versions catalogue change in
    let version = new_version pages written newest in
    let chain = chain_in (rest_of version pages) (record_bytes catalog change version.at) in
    let fills : pages_of version.blobs ++ chain.pages ≡ pages = (record_fills catalog newest change written pages comes is count).all in
    let kept : AreKept known (pages_of version.blobs ++ chain.pages) = subst (AreKept known) (sym fills) apart.given in
    let blobs : AreKept known (pages_of version.blobs) = all_first (λ page. known page ≡ false) (pages_of version.blobs) chain.pages kept in
    let rest : AreKept known chain.pages = all_rest (λ page. known page ≡ false) (pages_of version.blobs) chain.pages kept in
    let before : left known catalogue ≡ [] = dropped_go known catalogue (known_catalogue names versions catalogue change catalogue (all_held catalogue)) in
    let more : left known (catalogue ++ chain.pages) ≡ chain.pages =
    left_append known catalogue chain.pages ∙ ap (λ (ps : List ℕ). ps ++ left known chain.pages) before ∙ kept_stay known chain.pages rest in
    all_given known version chain.pages (catalogue ++ chain.pages) pages (its known pages written newest is apart.shared blobs) more fills

pub bases_use_the_given : BasesUseTheGiven
unfolding base_laid
bases_use_the_given names versions catalog catalogue newest change written pages log apart is count =
    let known = is_known names versions catalogue change in
    let version = new_version pages written newest in
    let chain = chain_in (rest_of version pages) (catalog_bytes catalog change version.at) in
    let fills : pages_of version.blobs ++ chain.pages ≡ pages = (base_fills catalog newest change written pages is count).all in
    let all : pages_of version.blobs ++ (chain.pages ++ log ∷ []) ≡ pages ++ log ∷ [] =
    sym (append_assoc (pages_of version.blobs) chain.pages (log ∷ [])) ∙ ap (λ (ps : List ℕ). ps ++ log ∷ []) fills in
    let kept : AreKept known (pages_of version.blobs ++ (chain.pages ++ log ∷ [])) = subst (AreKept known) (sym all) apart.given in
    let blobs : AreKept known (pages_of version.blobs) = all_first (λ page. known page ≡ false) (pages_of version.blobs) (chain.pages ++ log ∷ []) kept in
    let rest : AreKept known (chain.pages ++ log ∷ []) = all_rest (λ page. known page ≡ false) (pages_of version.blobs) (chain.pages ++ log ∷ []) kept in
    all_given known version (chain.pages ++ log ∷ []) (chain.pages ++ log ∷ []) (pages ++ log ∷ []) (its known pages written newest is apart.shared blobs)
    (kept_stay known (chain.pages ++ log ∷ []) rest) all
