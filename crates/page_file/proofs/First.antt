-- The file that was made is an empty database.
use Rattle.std.proofs.Common.{◌≡◌, ◌<◌, ◌≤◌, inl, inr, ⊎_elim, ℕ, zero, suc, ◌+◌, ◌-◌, ◌*◌, Bool, true, List, [], ◌∷◌, ◌++◌, length, take, drop, replicate, slice_index, Some, refl, sym, ◌∙◌, ap, subst, arith, length-append, length-drop}
use Rattle.std.specs.Prelude.{nat_lt, nat_le, nat_eq, not, ◌&&◌, ◌==◌, if◌then◌else◌, Result, Ok, Err}
use Rattle.std.specs.Int.{w32, from_le_bytes}
use Rattle.std.specs.List.{list_any}
use Rattle.std.proofs.lemmas.List.{get_or_append_left, get_or-append_right, get_or-take, get_or-drop, get_or-replicate, length-take, length-replicate}
use Rattle.std.proofs.lemmas.Grind.{same_number_lists}
use Rattle.std.proofs.lemmas.Bool.{cases_lt}
use Rattle.std.proofs.lemmas.Bool.Decides.{nat_tests}
use Rattle.page_chain.specs.Disk.{written}
use Rattle.page_chain.specs.TornLaws.{Torn-written}
use Rattle.page_chain.specs.Places.{number_at, SameBut}
use Rattle.page_chain.specs.Roots.{has_front, text_number, root_at, slot_in, current}
use Rattle.page_chain.specs.declared.slots.layout.sides.Side.TheVariants.{A, B}
use Rattle.page_chain.specs.declared.slots.layout.sides.Format.TheVariants.{Two}
use Rattle.page_chain.specs.declared.slots.layout.roots.Root.{Root}
use Rattle.page_chain.proofs.SlotsKept.{number_kept, root_moved}
use Rattle.page_chain.specs.Pages.{page_at, has_page}
use Rattle.page_chain.specs.Chains.{chain, chain_bytes, after, next_of}
use Rattle.page_chain.proofs.Kept.{size_is}
use Rattle.page_chain.specs.Standing.{IsZeroed, PageHolds, root_in}
use Rattle.page_chain.specs.declared.slots.slots.slots.NextEntry.TheVariants as entries
use Rattle.page_chain.proofs.Bytes.{written_same, written_byte}
use Rattle.page_chain.proofs.RootImages.{open_gate, zero_gate, is_newest}
use Rattle.page_chain.proofs.LogImages.{page_log, empty_page}
use Rattle.page_file.specs.Inner.Laid.{head_bytes, laid, made}
use Rattle.page_file.specs.Start.{IsEmptyDatabase, first_root}

-- three pages with slot A open, and all other bytes zeros
record IsMade (body file : List ℕ) : Type 0 where
  size : length file ≡ 12288
  head : (k : ℕ) → k < 12 → slice_index file k ≡ slice_index head_bytes k
  gate : slice_index file 512 ≡ 2
  slot : (k : ℕ) → k < 24 → slice_index file (520 + k) ≡ slice_index body k
  rest : (k : ℕ) → 544 ≤ k → slice_index file k ≡ 0

past_end : (xs : List ℕ) (k : ℕ) → length xs ≤ k → slice_index xs k ≡ 0
past_end [] k past = refl
past_end (x ∷ xs) zero past = absurd (omega arith)
past_end (x ∷ xs) (suc k) past = past_end xs k (omega arith)

-- a zero behind a gap, in a file that was empty
gap_size : (at : ℕ) → length (written at (0 ∷ []) []) ≡ at + 1
gap_size at = let torn = Torn-written at (0 ∷ []) [] in
    omega (
      arith,
      length-append (take at ([] ++ replicate {A = ℕ} (at - length {A = ℕ} []) 0) ++ 0 ∷ []) (drop {A = ℕ} (at + length {A = ℕ} (0 ∷ [])) []),
      length-append (take at ([] ++ replicate {A = ℕ} (at - length {A = ℕ} []) 0)) (0 ∷ []),
      length-take at ([] ++ replicate {A = ℕ} (at - length {A = ℕ} []) 0),
      length-replicate {A = ℕ} (at - length {A = ℕ} []) 0,
      length-drop {A = ℕ} (at + length {A = ℕ} (0 ∷ [])) [],
    )

gap_zeros : (at k : ℕ) → slice_index (written at (0 ∷ []) []) k ≡ 0
gap_zeros at k = ⊎_elim low (λ high. ⊎_elim (λ here. last here) (λ past. past_end (written at (0 ∷ []) []) k (omega (arith, gap_size at, past))) (cases_lt k (at + 1))) (cases_lt k at)
  where
    front : List ℕ
    front = take at (replicate (at - 0) 0)

    rest : List ℕ
    rest = drop (at + 1) []

    size : length front ≡ at
    size = omega (arith, length-take at (replicate {A = ℕ} (at - 0) 0), length-replicate {A = ℕ} (at - 0) 0)

    low : k < at → slice_index (written at (0 ∷ []) []) k ≡ 0
    low less = get_or_append_left (front ++ 0 ∷ []) rest 0 k (omega (arith, length-append front (0 ∷ []), size)) ∙ get_or_append_left front (0 ∷ []) 0 k (omega (arith, size))
        ∙ get_or-take at (replicate (at - 0) 0) k 0 less ∙ get_or-replicate (at - 0) k 0 0 (omega arith)

    last : k < at + 1 → slice_index (written at (0 ∷ []) []) k ≡ 0
    last less = ⊎_elim low (λ high.
        let is : k ≡ at = omega arith in
        get_or_append_left (front ++ 0 ∷ []) rest 0 k (omega (arith, length-append front (0 ∷ []), size)) ∙ get_or-append_right front (0 ∷ []) at k 0 size (omega arith) ∙ zero_of (k - at)) (cases_lt k at)
      where
        zero_of : (i : ℕ) → slice_index (0 ∷ []) i ≡ 0
        zero_of zero = refl
        zero_of (suc i) = refl

laid_on : (body z : List ℕ) → length body ≡ 24 → length z ≡ 12288 → ((k : ℕ) → slice_index z k ≡ 0) → IsMade body (written 512 (2 ∷ []) (written 520 body (written 0 head_bytes z)))
laid_on body z size long zeros = record {
  size = omega (arith, three.size, two.size, one.size, long);
  head = λ k low. three.each k (inl (omega arith)) ∙ two.each k (inl (omega arith)) ∙ begins k low;
  gate = written_byte 512 0 (2 ∷ []) b (omega (arith, two.size, one.size, long)) (omega arith);
  slot = λ k low. three.each (520 + k) (inr (omega arith)) ∙ written_byte 520 k body h (omega (arith, one.size, long)) (omega (arith, size));
  rest = λ k high. three.each k (inr (omega arith)) ∙ two.each k (inr (omega (arith, size))) ∙ one.each k (inr (omega arith)) ∙ zeros k;
}
  where
    h : List ℕ
    h = written 0 head_bytes z

    b : List ℕ
    b = written 520 body h

    one : SameBut 0 12 z h
    one = written_same 0 head_bytes z (omega (arith, long))

    two : SameBut 520 (length body) h b
    two = written_same 520 body h (omega (arith, size, one.size, long))

    three : SameBut 512 1 b (written 512 (2 ∷ []) b)
    three = written_same 512 (2 ∷ []) b (omega (arith, two.size, one.size, long))

    begins : (k : ℕ) → k < 12 → slice_index h k ≡ slice_index head_bytes k
    begins k low = subst (λ (i : ℕ). slice_index h i ≡ slice_index head_bytes k) (omega arith) (written_byte 0 k head_bytes z (omega arith) low)

is_made : (body : List ℕ) → length body ≡ 24 → IsMade body (made body [])
unfolding laid made
is_made body size = laid_on body (written 12287 (0 ∷ []) []) size (gap_size 12287) (gap_zeros 12287)

text_is : number_at 8 0 head_bytes ≡ text_number
unfolding number_at
text_is = refl

format_is : number_at 4 8 head_bytes ≡ 2
unfolding number_at
format_is = refl

made_front : (body file : List ℕ) → IsMade body file → has_front file ≡ true
made_front body file is =
    let long : length file ≡ 12288 = is.size in
    let text : number_at 8 0 file ≡ text_number = number_kept 8 0 head_bytes file (λ k low high. is.head k (omega arith)) ∙ text_is in
    let format : number_at 4 8 file ≡ 2 = number_kept 4 8 head_bytes file (λ k low high. is.head k (omega arith)) ∙ format_is in
    grind (arith, nat_tests)

made_current : (body file : List ℕ) → root_at 0 body ≡ first_root.root → IsMade body file → current file ≡ Some first_root
made_current body file root is = is_newest A file first_root (made_front body file is) here (inl (zero_gate B file (is.rest 1024 (omega arith))))
  where
    here : slot_in A file ≡ Some first_root
    here = open_gate A file is.gate ∙ ap (λ (r : Root). Some (root_in Two A r)) (root_moved 520 body file is.slot ∙ root)

page_zeroed : (page : ℕ) (body file : List ℕ) → 0 < page → page ≤ 2 → IsMade body file → IsZeroed page file
page_zeroed page body file least most is = record {
  is_page = record { least = least; within = omega (arith, is.size) };
  zeros = λ k low. is.rest (4096 * page + k) (omega arith);
}

zeros_page : (size page : ℕ) (file : List ℕ) → size * page + size ≤ length file → ((k : ℕ) → k < size → slice_index file (size * page + k) ≡ 0) → page_at size file page ≡ replicate size 0
zeros_page size page file within zeros = same_number_lists (page_at size file page) (replicate size 0) (long ∙ sym (length-replicate {A = ℕ} size 0)) (λ k low. each k (omega (arith, low, long)))
  where
    long : length (page_at size file page) ≡ size
    long = omega (arith, within, length-take size (drop (size * page) file), length-drop (size * page) file)

    each : (k : ℕ) → k < size → slice_index (page_at size file page) k ≡ slice_index (replicate size 0) k
    each k low = get_or-take size (drop (size * page) file) k 0 low ∙ get_or-drop (size * page) file k 0 ∙ zeros k low ∙ sym (get_or-replicate size k 0 0 low)

zero_bytes : (page : ℕ) (file : List ℕ) → IsZeroed page file → page_at 4096 file page ≡ replicate 4096 0
zero_bytes page file zero_ = zeros_page 4096 page file (omega (arith, zero_.is_page.within)) zero_.zeros

-- one page whose link is 0
abbrev Followed : Bool → ℕ → Result (List ℕ) ℕ
Followed whole link = if nat_lt 0 1 && whole && not (list_any (λ page. nat_eq page 1) (2 ∷ [])) then after 1 (if link == 0 then Ok [] else Err 1) else Err 0

followed : (whole : Bool) (link : ℕ) → whole ≡ true → link ≡ 0 → Followed whole link ≡ Ok (1 ∷ [])
followed whole link is none = ap (λ (w : Bool). Followed w link) is ∙ ap (λ (l : ℕ). Followed true l) none

made_chain : (body file : List ℕ) → IsMade body file → chain 4096 file (2 ∷ []) 0 1 4 ≡ Ok (1 ∷ [])
made_chain body file is = followed (has_page 4096 file 1) (next_of 4096 file 1) whole (ap (λ (xs : List ℕ). from_le_bytes w32 (take 4 xs)) (zero_bytes 1 file (page_zeroed 1 body file (omega arith) (omega arith) is)))
  where
    whole : has_page 4096 file 1 ≡ true
    whole = ap (λ (n : ℕ). nat_le 8192 n) is.size

made_bytes : (body file : List ℕ) → IsMade body file → chain_bytes 4096 file (1 ∷ []) 4 ≡ 0 ∷ 0 ∷ 0 ∷ 0 ∷ []
made_bytes body file is = ap (λ (xs : List ℕ). take 4 (drop 4 xs ++ [])) (zero_bytes 1 file (page_zeroed 1 body file (omega arith) (omega arith) is))

is_database : (body file : List ℕ) → root_at 0 body ≡ first_root.root → IsMade body file → IsEmptyDatabase file
is_database body file root is = record {
  size = is.size;
  opens = record { slot = made_current body file root is; log = page_log 2 [] entries.Closed file log.next log };
  catalogue = subst (λ (s : ℕ). chain s file (2 ∷ []) 0 1 4 ≡ Ok (1 ∷ [])) (sym size_is) (made_chain body file is);
  none = subst (λ (s : ℕ). chain_bytes s file (1 ∷ []) 4 ≡ 0 ∷ 0 ∷ 0 ∷ 0 ∷ []) (sym size_is) (made_bytes body file is);
}
  where
    log : PageHolds 2 [] entries.Closed file
    log = empty_page 2 file (page_zeroed 2 body file (omega arith) (omega arith) is)

nothing : (file : List ℕ) → length file ≡ 0 → file ≡ []
nothing [] is = refl
nothing (x ∷ xs) is = absurd (omega arith)

pub database_made : (body file : List ℕ) → length body ≡ 24 → root_at 0 body ≡ first_root.root → length file ≡ 0 → IsEmptyDatabase (made body file)
database_made body file size root is = subst (λ (xs : List ℕ). IsEmptyDatabase (made body xs)) (sym (nothing file is)) (is_database body (made body []) root (is_made body size))
