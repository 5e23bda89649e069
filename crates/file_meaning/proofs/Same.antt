-- Entries that agree in all that they say are one.
use Rattle.std.proofs.Common.{◌≡◌, ℕ, Bool, true, false, ◌&&◌, ◌||◌, List, [], ◌∷◌, refl, sym, ◌∙◌, ap, arith}
use Rattle.std.specs.Prelude.{◌==◌}
use Rattle.std.specs.List.{AllByRecursion}
use Rattle.std.specs.Ordering.{nat_cmp, is_eq, ordering_reverse}
use Rattle.std.specs.declared.cmp.Ordering.{Ordering}
use Rattle.std.specs.declared.cmp.Ordering.TheVariants.{Less, Equal, Greater}
use Rattle.std.specs.Cmp.Lexicographic.{slice_cmp, bytes_decides}
use Rattle.std.proofs.lemmas.Bool.{and_from, eqb-true}
use Rattle.std.proofs.lemmas.Cmp.{nat_list_cmp_total}
use Rattle.std.proofs.lemmas.Map.Text.{is_eq-slice_cmp}
use Rattle.chunk_map.specs.Geometry.{ChunkNumber}
use Rattle.chunk_map.specs.Link.{number_order}
use Rattle.chunk_map.proofs.NumberLaws.{same_number, is_equal}
use Rattle.chunk_map.specs.declared.directory.DirEntry.{DirEntry}
use Rattle.chunk_map.specs.Entries.{numbers}
use Rattle.file_meaning.specs.Opening.{is_same, is_seen}
use Rattle.file_meaning.proofs.Parts.{both_true}

entry_is : (a b : DirEntry) → a.at.items ≡ b.at.items → a.length ≡ b.length → a.birth ≡ b.birth → a.pages ≡ b.pages → a ≡ b
entry_is a b at size birth pages =
    ap (λ (k : ChunkNumber). record { at = record { items = k }; length = a.length; birth = a.birth; pages = a.pages }) at
    ∙ ap (λ (n : ℕ). record { at = b.at; length = n; birth = a.birth; pages = a.pages }) size
    ∙ ap (λ (n : ℕ). record { at = b.at; length = b.length; birth = n; pages = a.pages }) birth
    ∙ ap (λ (ps : List ℕ). record { at = b.at; length = b.length; birth = b.birth; pages = ps }) pages

pub same_entry : (a b : DirEntry) → is_same a b ≡ true → a ≡ b
same_entry a b is =
    let x = both_true (is_eq (slice_cmp nat_cmp a.at.items b.at.items)) (a.length == b.length && (a.birth == b.birth && is_eq (slice_cmp nat_cmp a.pages b.pages))) is in
    let y = both_true (a.length == b.length) (a.birth == b.birth && is_eq (slice_cmp nat_cmp a.pages b.pages)) x.1 in
    let z = both_true (a.birth == b.birth) (is_eq (slice_cmp nat_cmp a.pages b.pages)) y.1 in
    entry_is a b (same_number a.at.items b.at.items (is_equal (slice_cmp nat_cmp a.at.items b.at.items) x.0)) (eqb-true a.length b.length y.0) (eqb-true a.birth b.birth z.0)
    (same_number a.pages b.pages (is_equal (slice_cmp nat_cmp a.pages b.pages) z.1))

equal_itself : (k : List ℕ) → is_eq (slice_cmp nat_cmp k k) ≡ true
equal_itself k = sym (sym ((bytes_decides k k).1 refl) ∙ sym (is_eq-slice_cmp k k))

number_itself : (n : ℕ) → (n == n) ≡ true
number_itself n = grind arith

pub same_itself : (e : DirEntry) → is_same e e ≡ true
same_itself e =
    and_from (is_eq (slice_cmp nat_cmp e.at.items e.at.items)) (e.length == e.length && (e.birth == e.birth && is_eq (slice_cmp nat_cmp e.pages e.pages))) (equal_itself e.at.items)
    (and_from (e.length == e.length) (e.birth == e.birth && is_eq (slice_cmp nat_cmp e.pages e.pages)) (number_itself e.length)
    (and_from (e.birth == e.birth) (is_eq (slice_cmp nat_cmp e.pages e.pages)) (number_itself e.birth) (equal_itself e.pages)))

pub same_back : (a b : DirEntry) → is_same a b ≡ false → is_same b a ≡ false
same_back a b other = by_test (is_same b a) refl
  where
    by_test : (t : Bool) → is_same b a ≡ t → t ≡ false
    by_test false is = refl
    by_test true is =
        let e : b ≡ a = same_entry b a is in
        let yes : is_same a b ≡ true = ap (λ (x : DirEntry). is_same a x) e ∙ same_itself a in
        absurd cc

-- ---- entries whose numbers rise

flips : (o : Ordering) → o ≡ ordering_reverse o → o ≡ Less → ⊥
flips Less e l = cc
flips Equal e l = cc
flips Greater e l = cc

pub not_itself : (k : ChunkNumber) → number_order k k ≡ Less → ⊥
not_itself k less = flips (number_order k k) (nat_list_cmp_total.antisymm k k) less

not_before : (first e : DirEntry) → number_order first.at.items e.at.items ≡ Less → is_same e first ≡ false
not_before first e less = by_test (is_same e first) refl
  where
    by_test : (t : Bool) → is_same e first ≡ t → t ≡ false
    by_test false is = refl
    by_test true is =
        let same : e ≡ first = same_entry e first is in
        absurd (not_itself first.at.items (sym (ap (λ (x : DirEntry). number_order first.at.items x.at.items) same) ∙ less))

-- each of some entries is none of those seen
abbrev pub AreUnseen : List DirEntry → List DirEntry → Type 0
AreUnseen done entries = AllByRecursion (λ e. is_seen done e ≡ false) entries

pub unseen_more : (done : List DirEntry) (first : DirEntry) (entries : List DirEntry) → AllByRecursion (λ later. number_order first.at.items later ≡ Less) (numbers entries) → AreUnseen done entries → AreUnseen (first ∷ done) entries
unseen_more done first [] less unseen = tt
unseen_more done first (e ∷ entries) less unseen = (ap (λ (b : Bool). b || is_seen done e) (not_before first e less.0) ∙ unseen.0, unseen_more done first entries less.1 unseen.1)

pub unseen_none : (entries : List DirEntry) → AreUnseen [] entries
unseen_none [] = tt
unseen_none (e ∷ entries) = (refl, unseen_none entries)
