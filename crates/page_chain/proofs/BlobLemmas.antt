-- Reading a blob page by page.
use Rattle.std.proofs.Common.{◌≡◌, ◌≤◌, ◌<◌, ℕ, zero, suc, ◌+◌, ◌*◌, ◌/◌, ◌%◌, min, Bool, true, false, cond, not, List, [], ◌∷◌, ◌++◌, length, take, drop, slice_index, refl, sym, ◌∙◌, ap, subst, arith, length-append}
use Rattle.std.specs.Prelude.{IfSome, Some, None, find, flat_map}
use Rattle.std.specs.Bool.{OnTrue}
use Rattle.std.specs.declared.option.Option.{Option}
use Rattle.std.specs.Int.{div_ceil}
use Rattle.std.proofs.Math.Nat.{mul-add, mul-one}
use Rattle.std.proofs.lemmas.List.{take_all, take_more, drop_more, take-append-drop, append-nil, length-take}
use Rattle.std.proofs.lemmas.Grind.{flat_map-append}
use Rattle.page_chain.specs.Pages.{page_size, page_at, has_page, blob, first_past}

-- so many pages have room for so many bytes
pub enough : (room count : ℕ) → 0 < room → count ≤ room * div_ceil count room
enough room count some =
    let split : room * (count / room + min 1 (count % room)) ≡ room * (count / room) + room * min 1 (count % room) = mul-add room (count / room) (min 1 (count % room)) in
    let low : count % room ≤ room * min 1 (count % room) = rest (count % room) (omega arith) in
    omega arith
  where
    rest : (r : ℕ) → r < room → r ≤ room * min 1 r
    rest zero low = omega arith
    rest (suc r) low = let one : min 1 (suc r) ≡ 1 = omega arith in subst (λ (m : ℕ). suc r ≤ room * m) (sym one) (omega (arith, mul-one room))

behind : (b : Bool) (x : ℕ) (a c d : Option ℕ) → cond b (Some x) a ≡ None → (a ≡ None → c ≡ d) → cond b (Some x) c ≡ d
behind true x a c d is f = cc
behind false x a c d is f = f is

find_behind : (test : ℕ → Bool) (xs ys : List ℕ) → find test xs ≡ None → find test (xs ++ ys) ≡ find test ys
find_behind test [] ys none = refl
find_behind test (x ∷ xs) ys none = behind (test x) x (find test xs) (find test (xs ++ ys)) (find test ys) none (λ e. find_behind test xs ys e)

find_first : (test : ℕ → Bool) (x : ℕ) (xs : List ℕ) (b : Bool) → test x ≡ b → find test (x ∷ xs) ≡ cond b (Some x) (find test xs)
find_first test x xs b is = ap (λ (t : Bool). cond t (Some x) (find test xs)) is

-- the pages that were read of a blob are there, and their bytes were kept
pub record BlobSoFar (seen pages bytes : List ℕ) : Type 0 where
  pub whole : first_past page_size seen pages ≡ None
  pub content : bytes ≡ flat_map (page_at page_size seen) pages

pub blob_step : (seen pages : List ℕ) (i page : ℕ) (piece bytes bytes' : List ℕ) → i < length pages → slice_index pages i ≡ page → has_page page_size seen page ≡ true → piece ≡ page_at page_size seen page
    → bytes' ≡ bytes ++ piece → BlobSoFar seen (take i pages) bytes → BlobSoFar seen (take (i + 1) pages) bytes'
blob_step seen pages i page piece bytes bytes' within is whole read more so_far =
    let longer : take (i + 1) pages ≡ take i pages ++ page ∷ [] = take_more pages i 0 within ∙ ap (λ (p : ℕ). take i pages ++ p ∷ []) is in
    subst (λ (ps : List ℕ). BlobSoFar seen ps bytes') (sym longer) (record {
      whole = find_behind (λ p. not (has_page page_size seen p)) (take i pages) (page ∷ []) so_far.whole ∙ find_first (λ p. not (has_page page_size seen p)) page [] false (ap not whole);
      content = more ∙ ap (λ (xs : List ℕ). xs ++ piece) so_far.content
          ∙ ap (λ (xs : List ℕ). flat_map (page_at page_size seen) (take i pages) ++ xs) (read ∙ sym (append-nil (page_at page_size seen page)))
          ∙ sym (flat_map-append (page_at page_size seen) (take i pages) (page ∷ []));
    })

pub blob_past : (seen pages : List ℕ) (i page : ℕ) (bytes : List ℕ) → i < length pages → slice_index pages i ≡ page → has_page page_size seen page ≡ false → BlobSoFar seen (take i pages) bytes
    → first_past page_size seen pages ≡ Some page
blob_past seen pages i page bytes within is past so_far =
    let split : pages ≡ take i pages ++ page ∷ drop (i + 1) pages =
    sym (take-append-drop i pages) ∙ ap (λ (xs : List ℕ). take i pages ++ xs) (drop_more pages i 0 within ∙ ap (λ (p : ℕ). p ∷ drop (i + 1) pages) is) in
    ap (find (λ p. not (has_page page_size seen p))) split
    ∙ find_behind (λ p. not (has_page page_size seen p)) (take i pages) (page ∷ drop (i + 1) pages) so_far.whole
    ∙ find_first (λ p. not (has_page page_size seen p)) page (drop (i + 1) pages) true (ap not past)

-- the same, over a disk that may not tell its bytes
pub blob_starts : (o : Option (List ℕ)) (bytes : List ℕ) → bytes ≡ [] → IfSome o (λ seen. BlobSoFar seen [] bytes)
blob_starts None bytes none = tt
blob_starts (Some seen) bytes none = record { whole = refl; content = none }

pub blob_goes_on : (o now : Option (List ℕ)) (pages : List ℕ) (i page : ℕ) (b : Bool) (piece bytes bytes' : List ℕ) → now ≡ o → i < length pages → slice_index pages i ≡ page → b ≡ true
    → IfSome now (λ seen. b ≡ has_page page_size seen page) → IfSome now (λ seen. OnTrue b (piece ≡ page_at page_size seen page))
    → bytes' ≡ bytes ++ piece → IfSome o (λ seen. BlobSoFar seen (take i pages) bytes) → IfSome o (λ seen. BlobSoFar seen (take (i + 1) pages) bytes')
blob_goes_on None now pages i page b piece bytes bytes' same within is there whole read more so_far = tt
blob_goes_on (Some seen) now pages i page b piece bytes bytes' same within is there whole read more so_far =
    let here : b ≡ has_page page_size seen page = subst (λ (o : Option (List ℕ)). IfSome o (λ seen. b ≡ has_page page_size seen page)) same whole in
    let held : OnTrue b (piece ≡ page_at page_size seen page) = subst (λ (o : Option (List ℕ)). IfSome o (λ seen. OnTrue b (piece ≡ page_at page_size seen page))) same read in
    blob_step seen pages i page piece bytes bytes' within is (sym here ∙ there) (subst (λ (t : Bool). OnTrue t (piece ≡ page_at page_size seen page)) there held) more so_far

pub blob_stops : (o now : Option (List ℕ)) (pages : List ℕ) (i page : ℕ) (b : Bool) (bytes : List ℕ) → now ≡ o → i < length pages → slice_index pages i ≡ page → b ≡ false
    → IfSome now (λ seen. b ≡ has_page page_size seen page) → IfSome o (λ seen. BlobSoFar seen (take i pages) bytes) → IfSome o (λ seen. first_past page_size seen pages ≡ Some page)
blob_stops None now pages i page b bytes same within is past whole so_far = tt
blob_stops (Some seen) now pages i page b bytes same within is past whole so_far =
    let here : b ≡ has_page page_size seen page = subst (λ (o : Option (List ℕ)). IfSome o (λ seen. b ≡ has_page page_size seen page)) same whole in
    blob_past seen pages i page bytes within is (sym here ∙ past) so_far

pub blob_done : (o : Option (List ℕ)) (pages : List ℕ) (i count : ℕ) (bytes bytes' : List ℕ) → length pages ≤ i → bytes' ≡ take count bytes → IfSome o (λ seen. BlobSoFar seen (take i pages) bytes)
    → IfSome o (λ seen. (first_past page_size seen pages ≡ None) × (bytes' ≡ blob page_size seen pages count))
blob_done None pages i count bytes bytes' all cut so_far = tt
blob_done (Some seen) pages i count bytes bytes' all cut so_far =
    let whole : take i pages ≡ pages = take_all i pages all in (
      ap (first_past page_size seen) (sym whole) ∙ so_far.whole,
      cut ∙ ap (take count) (so_far.content ∙ ap (flat_map (page_at page_size seen)) whole),
    )

-- bytes that fill so many pages' room
pub one_more_full : (room : ℕ) (bytes piece bytes' : List ℕ) (i : ℕ) → bytes' ≡ bytes ++ piece → length piece ≡ room → length bytes ≡ room * i → length bytes' ≡ room * (i + 1)
one_more_full room bytes piece bytes' i more size so_far =
    let both : room * (i + 1) ≡ room * i + room * 1 = mul-add room i 1 in
    let one : room * 1 ≡ room = mul-one room in
    omega (arith, ap (λ (xs : List ℕ). length xs) more, length-append bytes piece)

pub none_full : (room : ℕ) (bytes : List ℕ) → bytes ≡ [] → length bytes ≡ room * 0
none_full room bytes none = ap length none ∙ omega arith

pub all_there : (room : ℕ) (bytes : List ℕ) (pages count : ℕ) → 0 < room → pages ≡ div_ceil count room → length bytes ≡ room * pages → length (take count bytes) ≡ count
all_there room bytes pages count some is size =
    let enough_room : count ≤ room * div_ceil count room = enough room count some in
    let same : room * pages ≡ room * div_ceil count room = ap (λ (n : ℕ). room * n) is in
    omega (arith, length-take count bytes)
