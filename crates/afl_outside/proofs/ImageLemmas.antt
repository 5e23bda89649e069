-- One image by the places of the writes that are kept.
use Rattle.std.proofs.Common.{◌≡◌, ℕ, ◌+◌, ◌<◌, ◌≤◌, List, [], ◌∷◌, ◌++◌, Bool, true, false, cond, length, get_or, take, drop, refl, sym, ◌∙◌, ap, subst, arith, length-append, append-nil, append_assoc, take-append-drop}
use Rattle.std.proofs.lemmas.List.{at_drop_all, at_drop_more, drop-append-le, length-take-le, take_more, length-replicate, reverse-append}
use Rattle.std.proofs.Math.ListN.{drop_of_length-le}
use Rattle.std.proofs.lemmas.List.Sums.{suffix_len-le-length}
use Rattle.std.specs.List.{suffix_len, prefix_len}
use Rattle.afl_outside.specs.Disk.{written}
use Rattle.afl_outside.specs.Images.{next_content, NextImages, content_after, ImagesAfter, Leaves, is_pending, synced_count, left_bytes, with_writes, stopped_image}
use Rattle.afl_outside.specs.Lemmas.ImageLaws.{content_is_left, torn_over}
use Rattle.afl_outside.specs.declared.in_memory.device_call.DeviceCall.{DeviceCall}
use Rattle.afl_outside.specs.declared.in_memory.device_call.DeviceCall.TheVariants.{Length, Read, Write, Sync}

-- one call more at the end
suffix_len-push : (xs : List DeviceCall) (x : DeviceCall) → suffix_len is_pending (xs ++ x ∷ []) ≡ cond (is_pending x) (1 + suffix_len is_pending xs) 0
suffix_len-push xs x = ap (prefix_len is_pending) (reverse-append xs (x ∷ []))

pub synced_count-pending : (xs : List DeviceCall) (x : DeviceCall) → is_pending x ≡ true → synced_count (xs ++ x ∷ []) ≡ synced_count xs
synced_count-pending xs x pending =
    let more : suffix_len is_pending (xs ++ x ∷ []) ≡ 1 + suffix_len is_pending xs = suffix_len-push xs x ∙ ap (λ b. cond b (1 + suffix_len is_pending xs) 0) pending in
    omega (arith, more, length-append xs (x ∷ []), suffix_len-le-length is_pending xs)

pub synced_count-synced : (xs : List DeviceCall) (x : DeviceCall) → is_pending x ≡ false → synced_count (xs ++ x ∷ []) ≡ length xs + 1
synced_count-synced xs x synced =
    let none : suffix_len is_pending (xs ++ x ∷ []) ≡ 0 = suffix_len-push xs x ∙ ap (λ b. cond b (1 + suffix_len is_pending xs) 0) synced in
    omega (arith, none, length-append xs (x ∷ []))

-- no sync was done
abbrev ArePending : List DeviceCall → Type 0
ArePending [] = Unit {0}
ArePending (call ∷ calls) = (is_pending call ≡ true) × ArePending calls

ArePending-push : (xs : List DeviceCall) (x : DeviceCall) → ArePending xs → is_pending x ≡ true → ArePending (xs ++ x ∷ [])
ArePending-push [] x before pending = (pending, tt)
ArePending-push (y ∷ xs) x before pending = (before.0, ArePending-push xs x before.1 pending)

-- no sync was done after the last that was
ArePending-unsynced : (calls : List DeviceCall) → ArePending (drop (synced_count calls) calls)
ArePending-unsynced calls = all [] calls tt
  where
    one : (xs : List DeviceCall) (x : DeviceCall) → ArePending (drop (synced_count xs) xs) → ArePending (drop (synced_count (xs ++ x ∷ [])) (xs ++ x ∷ []))
    one xs x before = elim (is_pending x) as (λ b. is_pending x ≡ b → ArePending (drop (synced_count (xs ++ x ∷ [])) (xs ++ x ∷ []))) [
      | true ↦ λ e. subst ArePending
          (sym (ap (λ k. drop k (xs ++ x ∷ [])) (synced_count-pending xs x e) ∙ drop-append-le (synced_count xs) xs (x ∷ []) (omega arith)))
          (ArePending-push (drop (synced_count xs) xs) x before e)
      | false ↦ λ e. subst ArePending
          (sym (ap (λ k. drop k (xs ++ x ∷ [])) (synced_count-synced xs x e) ∙ drop_of_length-le (xs ++ x ∷ []) (omega (arith, length-append xs (x ∷ [])))))
          tt
    ] refl

    all : (front back : List DeviceCall) → ArePending (drop (synced_count front) front) → ArePending (drop (synced_count (front ++ back)) (front ++ back))
    all front [] before = subst (λ (l : List DeviceCall). ArePending (drop (synced_count l) l)) (sym (append-nil front)) before
    all front (x ∷ back) before = subst (λ (l : List DeviceCall). ArePending (drop (synced_count l) l)) (append_assoc front (x ∷ []) back) (all (front ++ x ∷ []) back (one front x before))

length-left_bytes : (kept : List Bool) (fill : ℕ) (bytes : List ℕ) → length (left_bytes kept fill bytes) ≡ length bytes
length-left_bytes [] fill bytes = refl
length-left_bytes (true ∷ kept) fill bytes = refl
length-left_bytes (false ∷ kept) fill bytes = length-replicate (length bytes) fill

-- where no sync was done, an image with some writes left out is one that these calls may leave
with_writes_left : (seen : List ℕ) (images : List ℕ → Type 0) (calls : List DeviceCall) (kept : List Bool) (fill : ℕ) (image : List ℕ) → ArePending calls → images image
    → ImagesAfter seen images calls (with_writes kept fill image calls)
with_writes_left seen images [] kept fill image pending here = here
with_writes_left seen images (Length ∷ calls) kept fill image pending here = with_writes_left seen images calls kept fill image pending.1 here
with_writes_left seen images (Read at length ∷ calls) kept fill image pending here = with_writes_left seen images calls kept fill image pending.1 here
with_writes_left seen images (Write at bytes ∷ calls) kept fill image pending here =
    with_writes_left (written at bytes seen) (NextImages seen images (Write at bytes)) calls (drop 1 kept) fill (written at (left_bytes kept fill bytes) image) pending.1
    (image, here, torn_over at (length bytes) (left_bytes kept fill bytes) image (written at (left_bytes kept fill bytes) image) (length-left_bytes kept fill bytes) refl)
with_writes_left seen images (Sync false ∷ calls) kept fill image pending here = with_writes_left seen images calls kept fill image pending.1 here
with_writes_left seen images (Sync true ∷ calls) kept fill image (synced, pending) here = absurd (let no : ⊥ = cc in no)

ImagesAfter-append : (seen : List ℕ) (images : List ℕ → Type 0) (xs ys : List DeviceCall) (c : List ℕ) → ImagesAfter (content_after seen xs) (ImagesAfter seen images xs) ys c → ImagesAfter seen images (xs ++ ys) c
ImagesAfter-append seen images [] ys c left = left
ImagesAfter-append seen images (x ∷ xs) ys c left = ImagesAfter-append (next_content seen x) (NextImages seen images x) xs ys c left

-- the image that is chosen by the places is one that a stop may leave
pub stopped_left : (first : List ℕ) (calls : List DeviceCall) (kept : List Bool) (fill : ℕ) (image : List ℕ) → image ≡ stopped_image first calls kept fill → Leaves first calls image
stopped_left first calls kept fill image is =
    let front = take (synced_count calls) calls in
    let back = drop (synced_count calls) calls in
    let stopped = stopped_image first calls kept fill in
    subst (Leaves first calls) (sym is) (subst (λ (l : List DeviceCall). Leaves first l stopped) (take-append-drop (synced_count calls) calls)
    (ImagesAfter-append first (λ d. d ≡ first) front back stopped
    (with_writes_left (content_after first front) (Leaves first front) back kept fill (content_after first front) (ArePending-unsynced calls) (content_is_left first front))))

-- ---- one call after the other

one_taken : (calls : List DeviceCall) (i : ℕ) (call : DeviceCall) → i < length calls → call ≡ get_or calls i call → take i calls ++ call ∷ [] ≡ take (i + 1) calls
one_taken calls i call low is = ap (λ (c : DeviceCall). take i calls ++ c ∷ []) is ∙ sym (take_more calls i call low)

pub pending_more : (calls : List DeviceCall) (i count : ℕ) (call : DeviceCall) → i < length calls → call ≡ get_or calls i call → is_pending call ≡ true
    → count ≡ synced_count (take i calls) → count ≡ synced_count (take (i + 1) calls)
pending_more calls i count call low is pending so_far =
    so_far ∙ sym (synced_count-pending (take i calls) call pending) ∙ ap synced_count (one_taken calls i call low is)

pub synced_more : (calls : List DeviceCall) (i : ℕ) (call : DeviceCall) → i < length calls → call ≡ get_or calls i call → is_pending call ≡ false
    → i + 1 ≡ synced_count (take (i + 1) calls)
synced_more calls i call low is synced =
    ap (λ (n : ℕ). n + 1) (sym (length-take-le i calls (omega (arith, low)))) ∙ sym (synced_count-synced (take i calls) call synced)
    ∙ ap synced_count (one_taken calls i call low is)

pub replay_step : (all seen next : List ℕ) (calls : List DeviceCall) (i : ℕ) (call : DeviceCall) → i < length calls → call ≡ get_or calls i call
    → next ≡ next_content seen call → content_after seen (drop i calls) ≡ all → content_after next (drop (i + 1) calls) ≡ all
replay_step all seen next calls i call low is one so_far =
    ap (λ (s : List ℕ). content_after s (drop (i + 1) calls)) (one ∙ ap (next_content seen) is) ∙ sym (at_drop_more (content_after seen) calls i call low) ∙ so_far

pub replay_end : (all seen : List ℕ) (calls : List DeviceCall) (i : ℕ) → length calls ≤ i → content_after seen (drop i calls) ≡ all → seen ≡ all
replay_end all seen calls i past so_far = sym (at_drop_all (content_after seen) calls i past) ∙ so_far

pub lay_step : (all : List ℕ) (fill : ℕ) (places rest : List Bool) (seen next : List ℕ) (calls : List DeviceCall) (i : ℕ) (call : DeviceCall) → i < length calls
    → call ≡ get_or calls i call → ((later : List DeviceCall) → with_writes rest fill next later ≡ with_writes places fill seen (call ∷ later))
    → with_writes places fill seen (drop i calls) ≡ all → with_writes rest fill next (drop (i + 1) calls) ≡ all
lay_step all fill places rest seen next calls i call low is one so_far =
    one (drop (i + 1) calls) ∙ ap (λ (c : DeviceCall). with_writes places fill seen (c ∷ drop (i + 1) calls)) is
    ∙ sym (at_drop_more (with_writes places fill seen) calls i call low) ∙ so_far

pub lay_end : (all : List ℕ) (fill : ℕ) (places : List Bool) (seen : List ℕ) (calls : List DeviceCall) (i : ℕ) → length calls ≤ i
    → with_writes places fill seen (drop i calls) ≡ all → seen ≡ all
lay_end all fill places seen calls i past so_far = sym (at_drop_all (with_writes places fill seen) calls i past) ∙ so_far
