-- Entries that are put into a directory.
use Rattle.std.proofs.Common.{◌≡◌, ◌∙◌, ℕ, Bool, true, false, cond, List, [], ◌∷◌, map, Option, Some, None, refl, sym, ap, subst}
use Rattle.std.proofs.lemmas.Cmp.{tied_itself}
use Rattle.std.specs.List.{AllByRecursion}
use Rattle.std.specs.Option.{option_or}
use Rattle.std.specs.Ordering.{is_eq, ordering_reverse}
use Rattle.std.specs.declared.cmp.Ordering.{Ordering}
use Rattle.std.specs.declared.cmp.Ordering.TheVariants.{Less, Equal, Greater}
use Rattle.arrayvec.specs.ArrayVec.{ArrayVec}
use Rattle.array_rows.specs.Boxes.{by_pairs}
use Rattle.array_geom.specs.declared.chunk.Changed.{Changed}
use Rattle.array_geom.specs.declared.chunk.Chunk.{Chunk}
use Rattle.array_geom.specs.Geometry.{ChunkNumber}
use Rattle.array_geom.specs.Link.{number_order, NumbersRise}
use Rattle.array_geom.specs.Link as link
use Rattle.array_geom.proofs.NumberLaws.{is_equal, same_number}
use Rattle.chunk_map.specs.declared.directory.DirEntry.{DirEntry}
use Rattle.chunk_map.specs.declared.directory.Directory.{Directory}
use Rattle.chunk_map.specs.Entries.{AreRising, entry_at, numbers}
use Rattle.chunk_map.specs.Replacing.{AreReplaced}
use Rattle.chunk_map.proofs.Moves.{number_order_total, IsBefore, before-trans}
use Rattle.page_file.specs.declared.commits.placed.Placed.{Placed}
use Rattle.commit_pages.specs.declared.pages.written.Written.{Written}
use Rattle.commit_pages.specs.Versions.{entry_of, entries_of, put_by, put_entry, put_entries, directory_of, draft, HasRisingNumbers}

-- ---- entries looked up

same_itself : (k : ChunkNumber) → number_order k k ≡ Equal
same_itself k = tied_itself number_order_total k

none_before : (k : ChunkNumber) (es : List DirEntry) → IsBefore k es → entry_at es k ≡ None
none_before k [] b = refl
none_before k (e ∷ es) b =
    let back : number_order e.at.items k ≡ Greater = number_order_total.antisymm e.at.items k ∙ ap ordering_reverse b.0 in
    ap (λ (o : Ordering). cond (is_eq o) (Some e) (entry_at es k)) back ∙ none_before k es b.1

pub first_found : (e : DirEntry) (es : List DirEntry) → entry_at (e ∷ es) e.at.items ≡ Some e
first_found e es = ap (λ (o : Ordering). cond (is_eq o) (Some e) (entry_at es e.at.items)) (same_itself e.at.items)

-- ---- entries that rise are told by their look-ups

none_is_some : (o : Option DirEntry) (x : DirEntry) → None ≡ o → o ≡ Some x → ⊥
none_is_some o x e f = cc

rest_alike : (a : ChunkNumber) (x y : DirEntry) (rs ss : List DirEntry) (k : ChunkNumber) → IsBefore a rs → IsBefore a ss
    → cond (is_eq (number_order a k)) (Some x) (entry_at rs k) ≡ cond (is_eq (number_order a k)) (Some y) (entry_at ss k) → entry_at rs k ≡ entry_at ss k
rest_alike a x y rs ss k br bs h = cases (number_order a k) refl h
  where
    cases : (t : Ordering) → number_order a k ≡ t → cond (is_eq t) (Some x) (entry_at rs k) ≡ cond (is_eq t) (Some y) (entry_at ss k) → entry_at rs k ≡ entry_at ss k
    cases Less e l = l
    cases Greater e l = l
    cases Equal e l =
        let same : a ≡ k = same_number a k e in
        none_before k rs (subst (λ (z : ChunkNumber). IsBefore z rs) same br) ∙ sym (none_before k ss (subst (λ (z : ChunkNumber). IsBefore z ss) same bs))

same_entries : (a b : List DirEntry) → AreRising a → AreRising b → ((k : ChunkNumber) → entry_at a k ≡ entry_at b k) → a ≡ b
same_entries [] [] ra rb h = refl
same_entries [] (s ∷ ss) ra rb h = absurd (none_is_some (entry_at (s ∷ ss) s.at.items) s (h s.at.items) (first_found s ss))
same_entries (r ∷ rs) [] ra rb h = absurd (none_is_some (entry_at (r ∷ rs) r.at.items) r (sym (h r.at.items)) (first_found r rs))
same_entries (r ∷ rs) (s ∷ ss) ra rb h = cases (number_order r.at.items s.at.items) refl (same_entries rs ss ra.1 rb.1)
  where
    cases : (t : Ordering) → number_order r.at.items s.at.items ≡ t → (((k : ChunkNumber) → entry_at rs k ≡ entry_at ss k) → rs ≡ ss) → r ∷ rs ≡ s ∷ ss
    cases Less e ih =
        absurd (none_is_some (entry_at (r ∷ rs) r.at.items) r
        (sym (h r.at.items ∙ none_before r.at.items (s ∷ ss) (e, before-trans r.at.items s.at.items ss e rb.0))) (first_found r rs))
    cases Greater e ih =
        let back : number_order s.at.items r.at.items ≡ Less = number_order_total.antisymm s.at.items r.at.items ∙ ap ordering_reverse e in
        absurd (none_is_some (entry_at (s ∷ ss) s.at.items) s
        (sym (sym (h s.at.items) ∙ none_before s.at.items (r ∷ rs) (back, before-trans s.at.items r.at.items rs back ra.0))) (first_found s ss))
    cases Equal e ih =
        let same : r.at.items ≡ s.at.items = same_number r.at.items s.at.items e in
        let found : Some r ≡ Some s = sym (first_found r rs) ∙ h r.at.items ∙ ap (entry_at (s ∷ ss)) same ∙ first_found s ss in
        let one : r ≡ s = cc in
        let rests : rs ≡ ss =
        ih (λ k. rest_alike r.at.items r s rs ss k ra.0 (subst (λ (z : ChunkNumber). IsBefore z ss) (sym same) rb.0)
        (h k ∙ ap (λ (z : ChunkNumber). cond (is_eq (number_order z k)) (Some s) (entry_at ss k)) (sym same))) in
        λ i. one i ∷ rests i

-- ---- an entry that is put in

before_put : (k : ChunkNumber) (x : DirEntry) (es : List DirEntry) → number_order k x.at.items ≡ Less → IsBefore k es → IsBefore k (put_entry x es)
before_put k x [] l b = (l, tt)
before_put k x (e ∷ es) l b = by_order (number_order x.at.items e.at.items) (before_put k x es l b.1)
  where
    by_order : (t : Ordering) → IsBefore k (put_entry x es) → IsBefore k (put_by t x e es (put_entry x es))
    by_order Less later = (l, b)
    by_order Equal later = (l, b.1)
    by_order Greater later = (b.0, later)

put_rises : (x : DirEntry) (es : List DirEntry) → AreRising es → AreRising (put_entry x es)
put_rises x [] r = (tt, tt)
put_rises x (e ∷ es) r = by_order (number_order x.at.items e.at.items) refl (put_rises x es r.1)
  where
    by_order : (t : Ordering) → number_order x.at.items e.at.items ≡ t → AreRising (put_entry x es) → AreRising (put_by t x e es (put_entry x es))
    by_order Less is later = ((is, before-trans x.at.items e.at.items es is r.0), r)
    by_order Equal is later = (subst (λ (k : ChunkNumber). IsBefore k es) (sym (same_number x.at.items e.at.items is)) r.0, r.1)
    by_order Greater is later = (before_put e.at.items x es (number_order_total.antisymm e.at.items x.at.items ∙ ap ordering_reverse is) r.0, later)

choices : (b c : Bool) (x y : DirEntry) (o : Option DirEntry) → b ≡ c → cond b (Some x) o ≡ cond b (Some x) (cond c (Some y) o)
choices true c x y o e = refl
choices false true x y o e = absurd cc
choices false false x y o e = refl

at_put : (x : DirEntry) (es : List DirEntry) (k : ChunkNumber) → AreRising es → entry_at (put_entry x es) k ≡ cond (is_eq (number_order x.at.items k)) (Some x) (entry_at es k)
at_put x [] k r = refl
at_put x (e ∷ es) k r = by_order (number_order x.at.items e.at.items) refl (at_put x es k r.1)
  where
    apart : (b c : Bool) → is_eq (number_order x.at.items k) ≡ b → is_eq (number_order e.at.items k) ≡ c → number_order x.at.items e.at.items ≡ Greater
        → cond c (Some e) (cond b (Some x) (entry_at es k)) ≡ cond b (Some x) (cond c (Some e) (entry_at es k))
    apart true false f g is = refl
    apart false c f g is = refl
    apart true true f g is =
        let xk : x.at.items ≡ k = same_number x.at.items k (is_equal (number_order x.at.items k) f) in
        let ek : e.at.items ≡ k = same_number e.at.items k (is_equal (number_order e.at.items k) g) in
        let xe : number_order x.at.items e.at.items ≡ Equal = ap (λ (z : ChunkNumber). number_order x.at.items z) (ek ∙ sym xk) ∙ same_itself x.at.items in
        absurd cc

    by_order : (t : Ordering) → number_order x.at.items e.at.items ≡ t → entry_at (put_entry x es) k ≡ cond (is_eq (number_order x.at.items k)) (Some x) (entry_at es k)
        → entry_at (put_by t x e es (put_entry x es)) k ≡ cond (is_eq (number_order x.at.items k)) (Some x) (entry_at (e ∷ es) k)
    by_order Less is later = refl
    by_order Equal is later =
        choices (is_eq (number_order x.at.items k)) (is_eq (number_order e.at.items k)) x e (entry_at es k) (ap (λ (z : ChunkNumber). is_eq (number_order z k)) (same_number x.at.items e.at.items is))
    by_order Greater is later =
        ap (cond (is_eq (number_order e.at.items k)) (Some e)) later
        ∙ apart (is_eq (number_order x.at.items k)) (is_eq (number_order e.at.items k)) refl refl is

all_rise : (fresh old : List DirEntry) → AreRising old → AreRising (put_entries fresh old)
all_rise [] old r = r
all_rise (x ∷ fresh) old r = put_rises x (put_entries fresh old) (all_rise fresh old r)

first_of : (b : Bool) (x : DirEntry) (f o : Option DirEntry) → cond b (Some x) (option_or f o) ≡ option_or (cond b (Some x) f) o
first_of true x f o = refl
first_of false x f o = refl

all_at : (fresh old : List DirEntry) (k : ChunkNumber) → AreRising old → entry_at (put_entries fresh old) k ≡ option_or (entry_at fresh k) (entry_at old k)
all_at [] old k r = refl
all_at (x ∷ fresh) old k r =
    at_put x (put_entries fresh old) k (all_rise fresh old r)
    ∙ ap (cond (is_eq (number_order x.at.items k)) (Some x)) (all_at fresh old k r)
    ∙ first_of (is_eq (number_order x.at.items k)) x (entry_at fresh k) (entry_at old k)

-- putting them in is replacing, and there is one way to do so
pub put_are_replaced : (fresh old : List DirEntry) → AreRising old → AreReplaced fresh old (put_entries fresh old)
put_are_replaced fresh old r = record { rising = all_rise fresh old r; each = λ k. all_at fresh old k r }

pub replaced_are_put : (fresh old new : List DirEntry) → AreRising old → AreReplaced fresh old new → new ≡ put_entries fresh old
replaced_are_put fresh old new r replaced = same_entries new (put_entries fresh old) replaced.rising (all_rise fresh old r) (λ k. replaced.each k ∙ sym (all_at fresh old k r))

-- ---- the entries of chunks

all_pairs : (P : ChunkNumber → Type 0) (birth : ℕ) (ns : List (ArrayVec ℕ)) (ps : List Placed) → AllByRecursion P (map (λ at. at.items) ns) → AllByRecursion P (numbers (by_pairs (entry_of birth) ns ps))
all_pairs P birth [] ps all = tt
all_pairs P birth (n ∷ ns) [] all = tt
all_pairs P birth (n ∷ ns) (p ∷ ps) all = (all.0, all_pairs P birth ns ps all.1)

pub pairs_rise : (birth : ℕ) (ns : List (ArrayVec ℕ)) (ps : List Placed) → NumbersRise (map (λ at. at.items) ns) → AreRising (by_pairs (entry_of birth) ns ps)
pairs_rise birth [] ps r = tt
pairs_rise birth (n ∷ ns) [] r = tt
pairs_rise birth (n ∷ ns) (p ∷ ps) r = (all_pairs (λ later. number_order n.items later ≡ Less) birth ns ps r.0, pairs_rise birth ns ps r.1)

chunk_numbers : (chunks : List Chunk) → map (λ at. at.items) (map (λ chunk. chunk.at) chunks) ≡ link.numbers chunks
chunk_numbers [] = refl
chunk_numbers (chunk ∷ chunks) = ap (λ (ks : List ChunkNumber). chunk.at.items ∷ ks) (chunk_numbers chunks)

pub draft_rises : (changed : Changed) (birth : ℕ) → NumbersRise (link.numbers changed.chunks) → HasRisingNumbers (draft birth changed)
draft_rises changed birth rise = subst NumbersRise (sym (chunk_numbers changed.chunks)) rise

pub entries_rise : (written : Written) → HasRisingNumbers written → AreRising (entries_of written)
entries_rise written rise = pairs_rise written.birth written.numbers written.payloads rise

-- ---- the directory

pub stores_list_theirs : (written : Written) (newest : Directory) → written.whole ≡ true → (directory_of written newest).entries ≡ entries_of written
unfolding directory_of
stores_list_theirs written newest e = ap (λ (b : Bool). cond b (entries_of written) (put_entries (entries_of written) newest.entries)) e

pub inserts_put : (written : Written) (newest : Directory) → written.whole ≡ false → (directory_of written newest).entries ≡ put_entries (entries_of written) newest.entries
unfolding directory_of
inserts_put written newest e = ap (λ (b : Bool). cond b (entries_of written) (put_entries (entries_of written) newest.entries)) e

pub inserts_replace : (written : Written) (newest : Directory) → HasRisingNumbers written → AreRising newest.entries → written.whole ≡ false
    → AreReplaced (entries_of written) newest.entries (directory_of written newest).entries
inserts_replace written newest rising rise e =
    subst (AreReplaced (entries_of written) newest.entries) (sym (inserts_put written newest e)) (put_are_replaced (entries_of written) newest.entries rise)
