-- What a place sees in rows that were changed.
use Rattle.std.proofs.Common.{◌≡◌, ◌∙◌, ℕ, ◌+◌, ◌≤◌, Bool, true, false, not, ◌&&◌, if◌then◌else◌, List, [], ◌∷◌, ◌++◌, map, Option, None, Some, refl, ap, sym, arith}
use Rattle.std.specs.Prelude.{nat_le, nat_lt}
use Rattle.std.specs.List.{filter, list_all}
use Rattle.std.proofs.lemmas.Bool.{and_parts, and_from, and_left, and_right, leb-true, le-leb, lt-leb, lt-ltb, le-ltb}
use Rattle.std.proofs.lemmas.List.{map-append, append-nil}
use Rattle.std.proofs.lemmas.List.Elements.{filter-append}
use Rattle.std.proofs.lemmas.List.Folds.{list_all-append}
use Rattle.plan_changes.proofs.Maps.{all_weaker}
use Rattle.event_core.proofs.Tests.{both_not, if_tests, map_filter, filter_agrees}
use Rattle.store_versions.proofs.Conserved.{filter_filter}
use Rattle.chunk_map.specs.declared.directory.Directory.{Directory}
use Rattle.store_versions.specs.declared.row.VersionRow.{VersionRow}
use Rattle.store_versions.specs.Rows.{is_before, is_seen, stands, new_row, ended}
use Rattle.store_versions.specs.Seen.{version_of, seen, is_gone_by, is_past}
use Rattle.store_versions.specs.Versions.{MadeVersion}

-- tests that agree on what passes a third one keep the same
pub filter_among : {A : Type 0} (p q r : A → Bool) → ((x : A) → r x ≡ true → p x ≡ q x) → (xs : List A) → list_all r xs ≡ true → filter p xs ≡ filter q xs
filter_among p q r h [] all = refl
filter_among p q r h (x ∷ xs) all = if_tests (p x) (q x) x _ _ (h x (and_parts (r x) (list_all r xs) all).0) (filter_among p q r h xs (and_parts (r x) (list_all r xs) all).1)

pub all_images : {A B : Type 0} (f : A → B) (p : A → Bool) (q : B → Bool) → ((x : A) → p x ≡ true → q (f x) ≡ true) → (xs : List A) → list_all p xs ≡ true → list_all q (map f xs) ≡ true
all_images f p q h [] all = refl
all_images f p q h (x ∷ xs) all = and_from (q (f x)) (list_all q (map f xs)) (h x (and_parts (p x) (list_all p xs) all).0) (all_images f p q h xs (and_parts (p x) (list_all p xs) all).1)

all_if : {A : Type 0} (p : A → Bool) (b : Bool) (x : A) (xs : List A) → p x ≡ true → list_all p xs ≡ true → list_all p (if b then x ∷ xs else xs) ≡ true
all_if p true x xs h all = and_from (p x) (list_all p xs) h all
all_if p false x xs h all = all

pub all_left : {A : Type 0} (p t : A → Bool) (xs : List A) → list_all p xs ≡ true → list_all p (filter t xs) ≡ true
all_left p t [] all = refl
all_left p t (x ∷ xs) all = all_if p (t x) x (filter t xs) (and_parts (p x) (list_all p xs) all).0 (all_left p t xs (and_parts (p x) (list_all p xs) all).1)

-- ---- rows of the past

-- a row of the past is seen where it stands, and only there
pub sees_by : (gone : Option ℕ) (made n m : ℕ) → n ≤ m → (nat_le made n && is_gone_by n gone) ≡ true → (nat_le made m && is_before m gone) ≡ stands gone
sees_by None made n m le past = let low : made ≤ n = leb-true made n (and_parts (nat_le made n) true past).0 in and_from (nat_le made m) true (le-leb made m (omega arith)) refl
sees_by (Some gone) made n m le past =
    let low : gone ≤ n = leb-true gone n (and_parts (nat_le made n) (nat_le gone n) past).1 in
    and_right (nat_le made m) (nat_lt m gone) (le-ltb m gone (omega arith))

past_by : (gone : Option ℕ) (made n m : ℕ) → n ≤ m → (nat_le made n && is_gone_by n gone) ≡ true → (nat_le made m && is_gone_by m gone) ≡ true
past_by None made n m le past = let low : made ≤ n = leb-true made n (and_parts (nat_le made n) true past).0 in and_from (nat_le made m) true (le-leb made m (omega arith)) refl
past_by (Some gone) made n m le past =
    let low : made ≤ n = leb-true made n (and_parts (nat_le made n) (nat_le gone n) past).0 in
    let soon : gone ≤ n = leb-true gone n (and_parts (nat_le made n) (nat_le gone n) past).1 in
    and_from (nat_le made m) (nat_le gone m) (le-leb made m (omega arith)) (le-leb gone m (omega arith))

pub past_later : (n m : ℕ) → n ≤ m → (rows : List VersionRow) → list_all (is_past n) rows ≡ true → list_all (is_past m) rows ≡ true
past_later n m le rows past = all_weaker (is_past n) (is_past m) (λ row p. past_by row.gone row.made n m le p) rows past

pub seen_is : (n m : ℕ) → n ≤ m → (rows : List VersionRow) → list_all (is_past n) rows ≡ true → seen m rows ≡ map version_of (filter (λ row. stands row.gone) rows)
seen_is n m le rows past = ap (map version_of) (filter_among (is_seen m) (λ row. stands row.gone) (is_past n) (λ row p. sees_by row.gone row.made n m le p) rows past)

-- a later place sees what the present sees
pub later_sees : (n m : ℕ) → n ≤ m → (rows : List VersionRow) → list_all (is_past n) rows ≡ true → seen m rows ≡ seen n rows
later_sees n m le rows past = seen_is n m le rows past ∙ sym (seen_is n n (omega arith) rows past)

-- ---- one more row

one_seen : (b : Bool) (row : VersionRow) → b ≡ true → map version_of (if b then row ∷ [] else []) ≡ version_of row ∷ []
one_seen true row e = refl
one_seen false row e = absurd (both_not false refl e)

none_seen : (b : Bool) (row : VersionRow) → b ≡ false → map version_of (if b then row ∷ [] else []) ≡ []
none_seen true row e = absurd (both_not true e refl)
none_seen false row e = refl

seen_more : (m : ℕ) (rows : List VersionRow) (row : VersionRow) → seen m (rows ++ row ∷ []) ≡ seen m rows ++ map version_of (if is_seen m row then row ∷ [] else [])
seen_more m rows row = ap (map version_of) (filter-append (is_seen m) rows (row ∷ [])) ∙ map-append version_of (filter (is_seen m) rows) (filter (is_seen m) (row ∷ []))

pub added_seen : (name : List ℕ) (version n m : ℕ) (directory : Directory) (rows : List VersionRow) → n + 1 ≤ m →
    seen m (rows ++ new_row name version n directory ∷ []) ≡ seen m rows ++ version_of (new_row name version n directory) ∷ []
added_seen name version n m directory rows le =
    seen_more m rows (new_row name version n directory)
    ∙ ap (λ more. seen m rows ++ more) (one_seen (is_seen m (new_row name version n directory)) (new_row name version n directory) (and_from (nat_le (n + 1) m) true (le-leb (n + 1) m le) refl))

pub added_unseen : (name : List ℕ) (version n m : ℕ) (directory : Directory) (rows : List VersionRow) → m ≤ n →
    seen m (rows ++ new_row name version n directory ∷ []) ≡ seen m rows
added_unseen name version n m directory rows le =
    seen_more m rows (new_row name version n directory)
    ∙ ap (λ more. seen m rows ++ more) (none_seen (is_seen m (new_row name version n directory)) (new_row name version n directory) (and_left (nat_le (n + 1) m) true (lt-leb (n + 1) m (omega arith))))
    ∙ append-nil (seen m rows)

pub added_past : (name : List ℕ) (version n m : ℕ) (directory : Directory) (rows : List VersionRow) → n + 1 ≤ m → list_all (is_past n) rows ≡ true →
    list_all (is_past m) (rows ++ new_row name version n directory ∷ []) ≡ true
added_past name version n m directory rows le past =
    list_all-append (is_past m) rows (new_row name version n directory ∷ [])
    ∙ and_from (list_all (is_past m) rows) (list_all (is_past m) (new_row name version n directory ∷ [])) (past_later n m (omega arith) rows past)
    (and_from (nat_le (n + 1) m && true) true (and_from (nat_le (n + 1) m) true (le-leb (n + 1) m le) refl) refl)

-- ---- rows that go

kept_version : (c : Bool) (gone : Option ℕ) (row : VersionRow) → version_of (if c then record row { gone = gone } else row) ≡ version_of row
kept_version true when row = refl
kept_version false when row = refl

kept_versions : (test : VersionRow → Bool) (n : ℕ) (rows : List VersionRow) → map version_of (map (ended test n) rows) ≡ map version_of rows
kept_versions test n [] = refl
kept_versions test n (row ∷ rows) =
    ap (λ v. v ∷ map version_of (map (ended test n) rows)) (kept_version (test row && stands row.gone) (Some (n + 1)) row)
    ∙ ap (λ vs. version_of row ∷ vs) (kept_versions test n rows)

seen_images : (test : VersionRow → Bool) (n m : ℕ) (rows : List VersionRow) → seen m (map (ended test n) rows) ≡ map version_of (filter (λ row. is_seen m (ended test n row)) rows)
seen_images test n m rows = ap (map version_of) (sym (map_filter (ended test n) (is_seen m) rows)) ∙ kept_versions test n (filter (λ row. is_seen m (ended test n row)) rows)

ended_by : (b s : Bool) (row : VersionRow) (n m : ℕ) → n + 1 ≤ m → is_seen m row ≡ s → is_seen m (if b && s then record row { gone = Some (n + 1) } else row) ≡ (s && not b)
ended_by true true row n m le e = and_right (nat_le row.made m) (nat_lt m (n + 1)) (le-ltb m (n + 1) le)
ended_by true false row n m le e = e
ended_by false true row n m le e = e
ended_by false false row n m le e = e

pub ended_seen : (goes : MadeVersion → Bool) (n m : ℕ) (rows : List VersionRow) → n + 1 ≤ m → list_all (is_past n) rows ≡ true →
    seen m (map (ended (λ row. goes (version_of row)) n) rows) ≡ filter (λ v. not (goes v)) (seen n rows)
ended_seen goes n m rows le past =
    seen_images (λ row. goes (version_of row)) n m rows
    ∙ ap (map version_of) (filter_among (λ row. is_seen m (ended (λ row. goes (version_of row)) n row)) (λ row. stands row.gone && not (goes (version_of row))) (is_past n)
    (λ row p. ended_by (goes (version_of row)) (stands row.gone) row n m le (sees_by row.gone row.made n m (omega arith) p)) rows past)
    ∙ ap (map version_of) (sym (filter_filter (λ row. stands row.gone) (λ row. not (goes (version_of row))) rows))
    ∙ map_filter version_of (λ v. not (goes v)) (filter (λ row. stands row.gone) rows)
    ∙ ap (filter (λ v. not (goes v))) (sym (seen_is n n (omega arith) rows past))

before_stands : (gone : Option ℕ) (m : ℕ) → stands gone ≡ true → is_before m gone ≡ true
before_stands None m e = refl
before_stands (Some gone) m e = absurd (both_not false refl e)

before_by : (b s : Bool) (row : VersionRow) (n m : ℕ) → m ≤ n → (s ≡ true → is_before m row.gone ≡ true) → is_seen m (if b && s then record row { gone = Some (n + 1) } else row) ≡ is_seen m row
before_by true true row n m le e = ap (λ c. nat_le row.made m && c) (lt-ltb m (n + 1) (omega arith) ∙ sym (e refl))
before_by true false row n m le e = refl
before_by false true row n m le e = refl
before_by false false row n m le e = refl

pub ended_unseen : (test : VersionRow → Bool) (n m : ℕ) (rows : List VersionRow) → m ≤ n → seen m (map (ended test n) rows) ≡ seen m rows
ended_unseen test n m rows le =
    seen_images test n m rows
    ∙ ap (map version_of) (filter_agrees (λ row. is_seen m (ended test n row)) (is_seen m) (λ row. before_by (test row) (stands row.gone) row n m le (λ e. before_stands row.gone m e)) rows)

past_if : (c : Bool) (row : VersionRow) (n m : ℕ) → n + 1 ≤ m → is_past n row ≡ true → is_past m (if c then record row { gone = Some (n + 1) } else row) ≡ true
past_if true row n m le past =
    let low : row.made ≤ n = leb-true row.made n (and_parts (nat_le row.made n) (is_gone_by n row.gone) past).0 in
    and_from (nat_le row.made m) (nat_le (n + 1) m) (le-leb row.made m (omega arith)) (le-leb (n + 1) m le)
past_if false row n m le past = past_by row.gone row.made n m (omega arith) past

pub ended_past : (test : VersionRow → Bool) (n m : ℕ) (rows : List VersionRow) → n + 1 ≤ m → list_all (is_past n) rows ≡ true → list_all (is_past m) (map (ended test n) rows) ≡ true
ended_past test n m rows le past = all_images (ended test n) (is_past n) (is_past m) (λ row p. past_if (test row && stands row.gone) row n m le p) rows past
