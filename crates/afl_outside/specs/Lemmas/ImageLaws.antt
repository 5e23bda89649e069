-- What one call more does to the images.
use Rattle.std.proofs.Common.{◌≡◌, ◌≤◌, ◌<◌, ◌⊎◌, inl, inr, ℕ, List, [], ◌∷◌, ◌++◌, length, take, true, false, refl, sym, subst, arith, length-append}
use Rattle.std.proofs.lemmas.List.{take_all, take-append-le}
use Rattle.afl_outside.specs.Disk.{written, Torn, Elapses}
use Rattle.afl_outside.specs.Lemmas.TornLaws.{Torn-written}
use Rattle.afl_outside.specs.Images.{next_content, NextImages, content_after, ImagesAfter, Leaves, LeftSince}
use Rattle.afl_outside.specs.declared.in_memory.device_call.DeviceCall.{DeviceCall}
use Rattle.afl_outside.specs.declared.in_memory.device_call.DeviceCall.TheVariants.{Length, Read, Write, Sync}

pub content_after_push : (seen : List ℕ) (calls : List DeviceCall) (call : DeviceCall)
    → content_after seen (calls ++ call ∷ []) ≡ next_content (content_after seen calls) call
content_after_push seen [] call = refl
content_after_push seen (x ∷ calls) call = content_after_push (next_content seen x) calls call

pub images-push : (seen : List ℕ) (images : List ℕ → Type 0) (calls : List DeviceCall) (call : DeviceCall) (c : List ℕ)
    → ImagesAfter seen images (calls ++ call ∷ []) c → NextImages (content_after seen calls) (ImagesAfter seen images calls) call c
images-push seen images [] call c left = left
images-push seen images (x ∷ calls) call c left = images-push (next_content seen x) (NextImages seen images x) calls call c left

-- a list and one item more, up to a place before it
take-push : {A : Type 0} (k : ℕ) (xs : List A) (x : A) → k ≤ length xs → take k (xs ++ x ∷ []) ≡ take k xs
take-push k xs x le = take-append-le k xs (x ∷ []) le

pub elapses_push : (first : List ℕ) (calls : List DeviceCall) (call : DeviceCall)
    → Elapses (length calls) (length (calls ++ call ∷ [])) (LeftSince first calls) (LeftSince first (calls ++ call ∷ [])) (Leaves first (calls ++ call ∷ []))
elapses_push first calls call = record {
  later = omega (arith, length-append calls (call ∷ []));
  nothing_else = λ t c le left. split t c left (le_or_more left.0 (length calls));
}
  where
    le_or_more : (a b : ℕ) → (a ≤ b) ⊎ (b < a)
    le_or_more a b = grind arith

    split : (t : ℕ) (c : List ℕ) (left : LeftSince first (calls ++ call ∷ []) t c)
        → (left.0 ≤ length calls) ⊎ (length calls < left.0) → LeftSince first calls t c ⊎ Leaves first (calls ++ call ∷ []) c
    split t c left (inl before) = inl (left.0, left.1, before, subst (λ (l : List DeviceCall). Leaves first l c) (take-push left.0 calls call before) left.3)
    split t c left (inr now) = inr (subst (λ (l : List DeviceCall). Leaves first l c)
        (take_all left.0 (calls ++ call ∷ []) (omega (arith, now, length-append calls (call ∷ [])))) left.3)

pub elapses_same : (first : List ℕ) (calls : List DeviceCall)
    → Elapses (length calls) (length calls) (LeftSince first calls) (LeftSince first calls) (Leaves first calls)
elapses_same first calls = record { later = omega arith; nothing_else = λ t c le left. inl left }

-- the images since this moment are those of now
pub now_counts : (first : List ℕ) (calls : List DeviceCall) (t : ℕ) (c : List ℕ) → t ≤ length calls → Leaves first calls c → LeftSince first calls t c
now_counts first calls t c le left = (
  length calls,
  le,
  omega arith,
  subst
      (λ (l : List DeviceCall). Leaves first l c) (sym (take_all (length calls) calls (omega arith))) left,
)

pub only_images_now : (first : List ℕ) (calls : List DeviceCall) (c : List ℕ) → LeftSince first calls (length calls) c → Leaves first calls c
only_images_now first calls c left = subst (λ (l : List DeviceCall). Leaves first l c) (take_all left.0 calls left.1) left.3

-- what stands there is an image
content_left : (seen : List ℕ) (images : List ℕ → Type 0) (calls : List DeviceCall) → images seen → ImagesAfter seen images calls (content_after seen calls)
content_left seen images [] here = here
content_left seen images (Length ∷ calls) here = content_left seen images calls here
content_left seen images (Read at length ∷ calls) here = content_left seen images calls here
content_left seen images (Write at bytes ∷ calls) here = content_left (written at bytes seen)
    (NextImages seen images (Write at bytes)) calls (seen, here, Torn-written at bytes seen)
content_left seen images (Sync false ∷ calls) here = content_left seen images calls here
content_left seen images (Sync true ∷ calls) here = content_left seen (λ c. c ≡ seen) calls refl

pub content_is_left : (first : List ℕ) (calls : List DeviceCall) → Leaves first calls (content_after first calls)
content_is_left first calls = content_left first (λ c. c ≡ first) calls refl

-- as many bytes, whichever they are
pub torn_over : (at n : ℕ) (bytes seen new : List ℕ) → length bytes ≡ n → new ≡ written at bytes seen → Torn at n seen new
torn_over at n bytes seen new size is = subst (λ (m : ℕ). Torn at m seen new) size (subst (Torn at (length bytes) seen) (sym is) (Torn-written at bytes seen))
