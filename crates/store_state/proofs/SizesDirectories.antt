-- The bytes of a directory that is read are as many as its spelling has, whatever they are.
use Rattle.std.proofs.Common.{◌≡◌, ℕ, zero, suc, true, nat_lt, List, [], ◌∷◌, ◌++◌, length, Option, Some, None, refl}
use Rattle.std.specs.Prelude.{⊤, ◌==◌}
use Rattle.std.specs.Int.{w32, w64, to_le_bytes}
use Rattle.std.specs.List.{AllByRecursion, flat_map}
use Rattle.std.proofs.lemmas.Bool.{eqb-true}
use Rattle.file_items.specs.Items.{number_at, repeat, counted, spell_counted, Are}
use Rattle.file_items.specs.Pages.{pages_needed, positive_at, page_of, seen_nothing, pages_at, spell_pages}
use Rattle.file_items.proofs.BytesLaws.{exact32, exact64, Are-length}
use Rattle.chunk_map.specs.declared.directory.DirEntry.{DirEntry}
use Rattle.chunk_map.specs.declared.directory.Directory.{Directory}
use Rattle.chunk_map.specs.Spelling.{spell_entry, spelling}
use Rattle.chunk_map.specs.Table.{is_number, next_number, number_of, Written, Payload, written_at, payload_at, entry_after, next_entry, number_in, entries_at}
use Rattle.store_state.specs.SizesLaws.{IsListedEntry, ReadDirectoriesAreAsLong}
use Rattle.store_state.proofs.Takes.{Takes, AreMany, number_takes, item_takes, then_takes, seen_takes, repeat_takes, counted_takes, whole_taken}

-- ---- what the items pass

abbrev IsNumber : Option (List ℕ) → ℕ → ℕ → Type 0
IsNumber before after n = Unit {0} × (is_number before (after == 0) n ≡ true)

abbrev IsPositive : ℕ → Type 0
IsPositive n = Unit {0} × (nat_lt 0 n ≡ true)

abbrev IsPage : ⊤ → ℕ → ℕ → Type 0
IsPage seen after n = Unit {0}

abbrev ArePages : ℕ → List ℕ → Type 0
ArePages bytes pages = AreMany (λ count. count == pages_needed bytes) IsPage seen_nothing tt pages

abbrev IsWritten : ℕ → Written → Type 0
IsWritten bytes written = IsPositive written.birth × ArePages bytes written.pages

abbrev IsPayload : Payload → Type 0
IsPayload payload = IsPositive payload.length × IsWritten payload.length payload.written

abbrev written_of : DirEntry → Written
written_of entry = record { birth = entry.birth; pages = entry.pages }

abbrev payload_of : DirEntry → Payload
payload_of entry = record { length = entry.length; written = written_of entry }

abbrev IsNext : ℕ → Option (List ℕ) → ℕ → DirEntry → Type 0
IsNext dims before after entry = Are IsNumber next_number dims before entry.at.items × IsPayload (payload_of entry)

abbrev AreEntries : ℕ → Directory → Type 0
AreEntries dims directory = AreMany (λ count. true) (IsNext dims) number_in None directory.entries

abbrev spell_written : Written → List ℕ
spell_written written = to_le_bytes w64 written.birth ++ spell_pages written.pages

abbrev spell_payload : Payload → List ℕ
spell_payload payload = to_le_bytes w64 payload.length ++ spell_written payload.written

-- ---- the readings

number_of_takes : (before : Option (List ℕ)) (after : ℕ) → Takes (number_of before after) (to_le_bytes w64) (IsNumber before after)
unfolding number_of
number_of_takes before after = item_takes (number_at w64) (to_le_bytes w64) (λ n. Unit {0}) (is_number before (after == 0)) (number_takes w64 exact64.size)

numbers_take : (dims : ℕ) (before : Option (List ℕ)) → Takes (repeat number_of next_number dims before) (flat_map (to_le_bytes w64)) (Are IsNumber next_number dims before)
numbers_take dims before = repeat_takes number_of next_number (to_le_bytes w64) IsNumber number_of_takes dims before

positive_takes : Takes positive_at (to_le_bytes w64) IsPositive
positive_takes = item_takes (number_at w64) (to_le_bytes w64) (λ n. Unit {0}) (nat_lt 0) (number_takes w64 exact64.size)

page_takes : (seen : ⊤) (after : ℕ) → Takes (page_of seen after) (to_le_bytes w32) (IsPage seen after)
page_takes seen after = number_takes w32 exact32.size

pages_take : (bytes : ℕ) → Takes (pages_at bytes) spell_pages (ArePages bytes)
unfolding pages_at
pages_take bytes = counted_takes w32 exact32.size (λ count. count == pages_needed bytes) page_of seen_nothing (to_le_bytes w32) IsPage page_takes tt

written_takes : (bytes : ℕ) → Takes (written_at bytes) spell_written (IsWritten bytes)
unfolding written_at
written_takes bytes =
    then_takes positive_at (to_le_bytes w64) IsPositive (λ birth. pages_at bytes) (λ birth. spell_pages) (λ birth. ArePages bytes)
    (λ birth pages. record { birth = birth; pages = pages }) (λ (w : Written). w.birth) (λ (w : Written). w.pages) (λ a b. refl) (λ a b. refl)
    positive_takes (λ birth. pages_take bytes)

payload_takes : Takes payload_at spell_payload IsPayload
unfolding payload_at
payload_takes =
    then_takes positive_at (to_le_bytes w64) IsPositive written_at (λ bytes. spell_written) IsWritten
    (λ bytes written. record { length = bytes; written = written }) (λ (p : Payload). p.length) (λ (p : Payload). p.written) (λ a b. refl) (λ a b. refl)
    positive_takes written_takes

entry_takes : (dims : ℕ) (before : Option (List ℕ)) (after : ℕ) → Takes (next_entry dims before after) spell_entry (IsNext dims before after)
unfolding entry_after spell_entry
entry_takes dims before after =
    then_takes (repeat number_of next_number dims before) (flat_map (to_le_bytes w64)) (Are IsNumber next_number dims before) (λ at. payload_at) (λ at. spell_payload) (λ at. IsPayload)
    (λ at payload. record { at = record { items = at }; length = payload.length; birth = payload.written.birth; pages = payload.written.pages }) (λ (e : DirEntry). e.at.items) payload_of (λ a b. refl) (λ a b. refl)
    (numbers_take dims before) (λ at. payload_takes)

entries_take : (dims : ℕ) → Takes (entries_at dims) spelling (AreEntries dims)
unfolding entries_at spelling
entries_take dims =
    seen_takes (counted w64 (λ count. true) (next_entry dims) number_in None) (spell_counted w64 spell_entry) (AreMany (λ count. true) (IsNext dims) number_in None)
    (λ entries. record { entries = entries }) (λ (d : Directory). d.entries) (λ a. refl)
    (counted_takes w64 exact64.size (λ count. true) (next_entry dims) number_in spell_entry (IsNext dims) (entry_takes dims) None)

-- ---- as a rule

all_listed : (dims n : ℕ) (before : Option (List ℕ)) (entries : List DirEntry) → Are (IsNext dims) number_in n before entries → AllByRecursion (IsListedEntry dims) entries
unfolding Are
all_listed dims zero before [] good = tt
all_listed dims zero before (e ∷ entries) good = absurd good
all_listed dims (suc n) before [] good = tt
all_listed dims (suc n) before (e ∷ entries) good = (
  record { sized = Are-length IsNumber next_number dims before e.at.items good.0.0; count = eqb-true _ _ good.0.1.1.1.count },
  all_listed dims n (Some e.at.items) entries good.1,
)

pub directory_taken : ReadDirectoriesAreAsLong
directory_taken dims bytes directory is =
    let t = whole_taken (entries_at dims) spelling (AreEntries dims) (entries_take dims) bytes directory is in
    record { size = t.0; each = all_listed dims (length directory.entries) None directory.entries t.1.each }
