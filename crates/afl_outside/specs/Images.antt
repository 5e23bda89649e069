-- What a disk in memory holds and leaves, by the record of its calls.
use Rattle.std.specs.Prelude.{◌≡◌, ℕ, ◌-◌, ◌≤◌, List, [], ◌∷◌, Bool, true, false, length, take, drop, replicate}
use Rattle.std.specs.List.{suffix_len}
use Rattle.afl_outside.specs.Disk.{written, Torn}
use Rattle.afl_outside.specs.declared.in_memory.device_call.DeviceCall.{DeviceCall}
use Rattle.afl_outside.specs.declared.in_memory.device_call.DeviceCall.TheVariants.{Length, Read, Write, Sync}

-- the bytes after one call
abbrev pub next_content : List ℕ → DeviceCall → List ℕ
next_content seen Length = seen
next_content seen (Read at length) = seen
next_content seen (Write at bytes) = written at bytes seen
next_content seen (Sync done) = seen

-- the bytes after these calls
abbrev pub content_after : List ℕ → List DeviceCall → List ℕ
content_after seen [] = seen
content_after seen (call ∷ calls) = content_after (next_content seen call) calls

-- a call that changes no byte
abbrev pub IsNote : DeviceCall → Type 0
IsNote Length = Unit {0}
IsNote (Read at length) = Unit {0}
IsNote (Write at bytes) = ⊥
IsNote (Sync done) = Unit {0}

-- The images after one call, of those before it: a write may be torn, a sync that was done leaves what a read gives.
abbrev pub NextImages : List ℕ → (List ℕ → Type 0) → DeviceCall → List ℕ → Type 0
NextImages seen images Length = images
NextImages seen images (Read at length) = images
NextImages seen images (Write at bytes) = λ c. (d : List ℕ) × images d × Torn at (length bytes) d c
NextImages seen images (Sync false) = images
NextImages seen images (Sync true) = λ c. c ≡ seen

-- the images that a crash may leave after these calls
abbrev pub ImagesAfter : List ℕ → (List ℕ → Type 0) → List DeviceCall → List ℕ → Type 0
ImagesAfter seen images [] = images
ImagesAfter seen images (call ∷ calls) = ImagesAfter (next_content seen call) (NextImages seen images call) calls

-- after these calls on a disk whose first bytes are synced
abbrev pub Leaves : List ℕ → List DeviceCall → List ℕ → Type 0
Leaves first calls = ImagesAfter first (λ c. c ≡ first) calls

-- after so many of the calls, or more
abbrev pub LeftSince : List ℕ → List DeviceCall → ℕ → List ℕ → Type 0
LeftSince first calls t c = (k : ℕ) × (t ≤ k) × (k ≤ length calls) × Leaves first (take k calls) c

-- a call after which a crash may still undo the writes before it
abbrev pub is_pending : DeviceCall → Bool
is_pending Length = true
is_pending (Read at length) = true
is_pending (Write at bytes) = true
is_pending (Sync false) = true
is_pending (Sync true) = false

-- how many calls there are up to the last sync that was done, and 0 where none was
abbrev pub synced_count : List DeviceCall → ℕ
synced_count calls = length calls - suffix_len is_pending calls

-- What a write leaves: its bytes, or as many of `fill` where its place, the first of `kept`, is false. A place that is missing keeps.
abbrev pub left_bytes : List Bool → ℕ → List ℕ → List ℕ
left_bytes [] fill bytes = bytes
left_bytes (true ∷ kept) fill bytes = bytes
left_bytes (false ∷ kept) fill bytes = replicate (length bytes) fill

-- the bytes with these calls' writes over them in order, each with a place of its own in `kept`
abbrev pub with_writes : List Bool → ℕ → List ℕ → List DeviceCall → List ℕ
with_writes kept fill seen [] = seen
with_writes kept fill seen (Length ∷ calls) = with_writes kept fill seen calls
with_writes kept fill seen (Read at length ∷ calls) = with_writes kept fill seen calls
with_writes kept fill seen (Write at bytes ∷ calls) = with_writes (drop 1 kept) fill (written at (left_bytes kept fill bytes) seen) calls
with_writes kept fill seen (Sync done ∷ calls) = with_writes kept fill seen calls

-- One image that a stop right after these calls may leave: what the last sync that was done left, with the writes since then.
abbrev pub stopped_image : List ℕ → List DeviceCall → List Bool → ℕ → List ℕ
stopped_image first calls kept fill =
    with_writes kept fill (content_after first (take (synced_count calls) calls)) (drop (synced_count calls) calls)
