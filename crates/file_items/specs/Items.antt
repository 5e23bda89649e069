-- Bytes as items that stand one after the other, each with a test that may look at the items before it.
-- A reading is a value and the bytes after it. Where an item is cut by the end, or fails its test, the
-- reading is wrong at that item, which is named by how many bytes are left where it begins.
use Rattle.std.specs.Prelude.{◌≡◌, ℕ, zero, suc, ◌-◌, ◌<◌, Bool, true, List, [], ◌∷◌, ◌++◌, length, take}
use Rattle.std.specs.Prelude.{drop, Option, Some, None, Result, Ok, Err, nat_lt, ◌==◌, if◌then◌else◌}
use Rattle.std.specs.List.{flat_map}
use Rattle.std.specs.Int.{Width, byte_len, to_le_bytes, from_le_bytes}
use Rattle.file_items.specs.declared.bytes.stop.Stop.{Stop}
use Rattle.file_items.specs.declared.bytes.stop.Stop.TheVariants as stops

infixl 10 ◌>>=◌
abbrev pub ◌>>=◌ : {A B : Type 0} → Result A ℕ → (A → Result B ℕ) → Result B ℕ
(Ok x) >>= f = f x
(Err left) >>= f = Err left

-- what reading a value at the front of some bytes gives
abbrev pub Reading : Type 0 → Type 0
Reading A = List ℕ → Result (A × List ℕ) ℕ

-- a number, the low byte first
abbrev pub number_at : Width → Reading ℕ
number_at w bytes = if nat_lt (length bytes) (byte_len w) then Err (length bytes) else Ok (from_le_bytes w (take (byte_len w) bytes), drop (byte_len w) bytes)

-- so many bytes as they are
abbrev pub bytes_at : ℕ → Reading (List ℕ)
bytes_at n bytes = if nat_lt (length bytes) n then Err (length bytes) else Ok (take n bytes, drop n bytes)

-- an item with its test
abbrev pub item : {A : Type 0} → Reading A → (A → Bool) → Reading A
item reads test bytes = reads bytes >>= λ x. if test x.0 then Ok x else Err (length bytes)

-- what is cut inside is wrong where it begins: several fields that are one item
abbrev pub at_start : {A : Type 0} → ℕ → Result A ℕ → Result A ℕ
at_start left (Ok x) = Ok x
at_start left (Err inside) = Err left

abbrev pub one_item : {A : Type 0} → Reading A → Reading A
one_item reads bytes = at_start (length bytes) (reads bytes)

-- so many of a kind: `one` is told what came before (`so_far`, which `next` carries on) and how many come after
unfoldable pub repeat : {S A : Type 0} → (S → ℕ → Reading A) → (S → A → S) → ℕ → S → Reading (List A)
repeat one next zero so_far bytes = Ok ([], bytes)
repeat one next (suc n) so_far bytes = one so_far n bytes >>= λ first. repeat one next n (next so_far first.0) first.1
    >>= λ others. Ok (first.0 ∷ others.0, others.1)

-- a count of this width with its test, and so many of a kind
abbrev pub counted : {S A : Type 0} → Width → (ℕ → Bool) → (S → ℕ → Reading A) → (S → A → S) → S → Reading (List A)
counted w test one next so_far bytes = item (number_at w) test bytes >>= λ count. repeat one next count.0 so_far count.1

abbrev pub spell_counted : {A : Type 0} → Width → (A → List ℕ) → List A → List ℕ
spell_counted w spell xs = to_le_bytes w (length xs) ++ flat_map spell xs

-- each of a list is good after those before it, and there are so many
unfoldable pub Are : {S A : Type 0} → (S → ℕ → A → Type 0) → (S → A → S) → ℕ → S → List A → Type 0
Are Good next zero so_far [] = Unit {0}
Are Good next zero so_far (x ∷ xs) = ⊥
Are Good next (suc n) so_far [] = ⊥
Are Good next (suc n) so_far (x ∷ xs) = Good so_far n x × Are Good next n (next so_far x) xs

-- what a counted list meets whose count is below a limit
pub record AreCounted {S A : Type 0} (limit : ℕ) (test : ℕ → Bool) (Good : S → ℕ → A → Type 0) (next : S → A → S) (so_far : S) (xs : List A) : Type 0 where
  pub below : length xs < limit
  pub count : test (length xs) ≡ true
  pub each : Are Good next (length xs) so_far xs

-- all of the bytes, else wrong at the first byte after the last item
abbrev pub whole : {A : Type 0} → Reading A → List ℕ → Result A ℕ
whole reads bytes = reads bytes >>= λ x. if length x.1 == 0 then Ok x.0 else Err (length x.1)

-- the offset of the first wrong item
abbrev pub wrong_at : {A : Type 0} → ℕ → Result A ℕ → Option ℕ
wrong_at total (Ok x) = None
wrong_at total (Err left) = Some (total - left)

-- A function of the code stands for a reading: it may want memory, else it has the reading's value (looked
-- at by `view`) or stops at the reading's wrong item.
abbrev pub Stopped : {Y : Type 0} → Stop → Result Y ℕ → Type 0
Stopped stops.Memory reading = Unit {0}
Stopped (stops.Left left) reading = reading ≡ Err left

abbrev pub IsRead : {X Y : Type 0} → (X → Y) → Result X Stop → Result Y ℕ → Type 0
IsRead view (Ok x) reading = reading ≡ Ok (view x)
IsRead view (Err stop) reading = Stopped stop reading
