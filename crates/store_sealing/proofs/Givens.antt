-- The directories that versions were made with, once one more commit made one.
use Rattle.std.proofs.Common.{◌≡◌, ◌∙◌, ℕ, ◌+◌, ◌<◌, ◌≤◌, Bool, true, false, if◌then◌else◌, nat_eq, List, [], ◌∷◌, ◌++◌, length, reverse, refl, ap, sym, arith}
use Rattle.std.specs.List.{AllByRecursion}
use Rattle.std.proofs.lemmas.Bool.{eqb-true, ne_eqb}
use Rattle.std.proofs.lemmas.List.{reverse-append}
use Rattle.chunk_map.specs.declared.directory.Directory.{Directory}
use Rattle.plan_changes.specs.declared.change.Change.{Change}
use Rattle.event_core.specs.declared.entry.Used.{Used}
use Rattle.event_core.specs.declared.entry.Entry.{Entry}
use Rattle.event_core.specs.declared.entry.Entry.TheVariants.{Pin, Unpin, Commit, Reap}
use Rattle.event_core.specs.Bases.{commits}
use Rattle.event_core.specs.History.{History}
use Rattle.store_versions.specs.Laws.{with_made}
use Rattle.store_versions.specs.Versions.{MadeVersion, Directories}
use Rattle.prepared_commits.specs.Standings.{commit_places, made_at}

-- ---- the places of commits

places_below : (place n : ℕ) (entries : List Entry) → place + length entries ≤ n → AllByRecursion (λ p. p < n) (commit_places place entries)
places_below place n [] le = tt
places_below place n (Pin session ∷ entries) le = places_below (place + 1) n entries (omega (arith, le))
places_below place n (Unpin session ∷ entries) le = places_below (place + 1) n entries (omega (arith, le))
places_below place n (Commit session change used ∷ entries) le = (omega (arith, le), places_below (place + 1) n entries (omega (arith, le)))
places_below place n (Reap ∷ entries) le = places_below (place + 1) n entries (omega (arith, le))

pub places_more : (place n session : ℕ) (change : Change) (used : Used) (entries : List Entry) → place + length entries ≡ n →
    commit_places place (entries ++ Commit session change used ∷ []) ≡ commit_places place entries ++ n ∷ []
places_more place n session change used [] e = let same : place ≡ n = omega (arith, e) in ap (λ (p : ℕ). p ∷ []) same
places_more place n session change used (Pin t ∷ entries) e = places_more (place + 1) n session change used entries (omega (arith, e))
places_more place n session change used (Unpin t ∷ entries) e = places_more (place + 1) n session change used entries (omega (arith, e))
places_more place n session change used (Commit t c u ∷ entries) e =
    ap (λ (places : List ℕ). place ∷ places) (places_more (place + 1) n session change used entries (omega (arith, e)))
places_more place n session change used (Reap ∷ entries) e = places_more (place + 1) n session change used entries (omega (arith, e))

commits_behind : (later before : History) → commits (later ++ before) ≡ commits later + commits before
commits_behind [] before = omega arith
commits_behind (Pin session ∷ later) before = commits_behind later before
commits_behind (Unpin session ∷ later) before = commits_behind later before
commits_behind (Commit session change used ∷ later) before = let rest = commits_behind later before in omega (arith, rest)
commits_behind (Reap ∷ later) before = commits_behind later before

one_of : (entry : Entry) (entries : List Entry) (n m : ℕ) → commits (entry ∷ []) ≡ m → n ≡ commits (reverse entries) → n + m ≡ commits (reverse (entry ∷ entries))
one_of entry entries n m one rest =
    let turned : commits (reverse (entry ∷ entries)) ≡ commits (reverse entries ++ entry ∷ []) = ap commits (reverse-append (entry ∷ []) entries) in
    let both = commits_behind (reverse entries) (entry ∷ []) in
    let sums : n + m ≡ commits (reverse entries) + commits (entry ∷ []) = omega (arith, one, rest) in
    sums ∙ sym both ∙ sym turned

-- each commit has its place
pub count_places : (place : ℕ) (entries : List Entry) → length (commit_places place entries) ≡ commits (reverse entries)
count_places place [] = refl
count_places place (Pin session ∷ entries) =
    let rest = count_places (place + 1) entries in omega (arith, rest, one_of (Pin session) entries (length (commit_places (place + 1) entries)) 0 refl rest)
count_places place (Unpin session ∷ entries) =
    let rest = count_places (place + 1) entries in omega (arith, rest, one_of (Unpin session) entries (length (commit_places (place + 1) entries)) 0 refl rest)
count_places place (Commit session change used ∷ entries) =
    let rest = count_places (place + 1) entries in
    omega (arith, rest, one_of (Commit session change used) entries (length (commit_places (place + 1) entries)) 1 refl rest)
count_places place (Reap ∷ entries) =
    let rest = count_places (place + 1) entries in omega (arith, rest, one_of Reap entries (length (commit_places (place + 1) entries)) 0 refl rest)

-- ---- what was made at a place

swapped : (a b : Bool) (x y z : Directory) → (a ≡ true → b ≡ false) → (if a then x else (if b then y else z)) ≡ (if b then y else (if a then x else z))
swapped true true x y z apart = let no : true ≡ false = apart refl in absurd cc
swapped true false x y z apart = refl
swapped false true x y z apart = refl
swapped false false x y z apart = refl

made_more : (places : List ℕ) (made : List Directory) (n : ℕ) (directory : Directory) (place : ℕ) → length places ≡ length made → AllByRecursion (λ p. p < n) places →
    made_at (places ++ n ∷ []) (made ++ directory ∷ []) place ≡ (if nat_eq place n then directory else made_at places made place)
made_more [] [] n directory place e below = refl
made_more [] (m ∷ made) n directory place e below = absurd (omega (arith, e))
made_more (p ∷ places) [] n directory place e below = absurd (omega (arith, e))
made_more (p ∷ places) (m ∷ made) n directory place e below =
    let low = below.0 in
    ap (λ (d : Directory). if nat_eq place p then m else d) (made_more places made n directory place (omega (arith, e)) below.1)
    ∙ swapped (nat_eq place p) (nat_eq place n) m directory (made_at places made place)
    (λ is. let same : place ≡ p = eqb-true place p is in ne_eqb place n (λ other. omega (arith, low, same, other)))

abbrev given_as : List MadeVersion → (ℕ → Directory) → Directories
given_as first made = record { first = first; made = made }

-- with one more commit just the new version's directory is added
pub given_more : (first : List MadeVersion) (entries : List Entry) (made : List Directory) (n session : ℕ) (change : Change) (used : Used) (directory : Directory) →
    n ≡ length entries → length (commit_places 0 entries) ≡ length made →
    given_as first (made_at (commit_places 0 (entries ++ Commit session change used ∷ [])) (made ++ directory ∷ []))
    ≡ with_made n directory (given_as first (made_at (commit_places 0 entries) made))
given_more first entries made n session change used directory count each =
    let all : 0 + length entries ≡ n = omega (arith, count) in
    let places = places_more 0 n session change used entries all in
    let below = places_below 0 n entries (omega (arith, all)) in
    let added : given_as first (made_at (commit_places 0 entries ++ n ∷ []) (made ++ directory ∷ [])) ≡ with_made n directory (given_as first (made_at (commit_places 0 entries) made)) =
    λ i. given_as first (λ place. made_more (commit_places 0 entries) made n directory place each below i) in
    ap (λ (all : List ℕ). given_as first (made_at all (made ++ directory ∷ []))) places ∙ added
