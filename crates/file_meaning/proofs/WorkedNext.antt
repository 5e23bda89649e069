-- An array that is stored again, computed: what the law of records asks, and what it says.
use Rattle.std.proofs.Common.{◌≡◌, ◌≢◌, ◌<◌, ◌≤◌, ◌⊎◌, inl, inr, ℕ, zero, suc, ◌+◌, ◌-◌, ◌*◌, List, [], ◌∷◌, ◌++◌, length, slice_index, Some, Ok, refl, sym, ◌∙◌, ap, subst, arith}
use Rattle.page_chain.specs.Places.{IsNone, KeepsPages, number_at}
use Rattle.page_file.specs.Pages.{page_size, page_at, piece_of}
use Rattle.page_file.specs.Chains.{chain_piece}
use Rattle.page_file.specs.Links.{AreFree}
use Rattle.chunk_map.specs.Spelling.{IsDirectory, spell_entry, spelling}
use Rattle.file_items.specs.Spelling.{spell_name}
use Rattle.plan_changes.specs.Databases.{after}
use Rattle.version_catalog.specs.Spelling.{spell_blob, spell_record}
use Rattle.file_meaning.specs.Slots.{slots_in}
use Rattle.file_meaning.specs.Inner.FileExample.{schema, rows, database, zeros, front, catalog_bytes, directory_bytes, payload_bytes, file_with, file}
use Rattle.file_meaning.proofs.WorkedFiles.{database_is, found_is, version_is, payload_is}
use Rattle.file_meaning.specs.Inner.NextExample.{change, entry, made, logged, log_page, head, stored, added, next, found, slots, AnArrayIsStoredAgain}
use Rattle.file_meaning.specs.Premises.{StandsBy, MayChange, HasBlob, HasChain, HoldsMade, HoldsRecord, record_at, slots_with}
use Rattle.file_meaning.proofs.BySlots.{stand_by}
use Rattle.file_meaning.proofs.Free.{index_front}
use Rattle.file_meaning.proofs.Logged.{none_of_has}
use Rattle.file_meaning.proofs.Record.{records_make_next}

pub stands_is : StandsBy file slots database found
stands_is = record { finds = found_is; database = database_is; holds = record { names = refl; versions = ((version_is, tt), tt) } }

may_change : MayChange database change
may_change = record {
  named = (refl, record { attributes = (refl, tt); dimensions = (refl, tt) });
  typed = (refl, (record { typed = refl; reads = ((refl, inl refl), tt) }, (refl, refl)));
  stores = record { valid = refl; are_rows = record { rising = ((refl, tt), (tt, tt)); in_bounds = (refl, (refl, tt)) }; kinds = ((refl, tt), ((refl, tt), tt)) };
  sound = refl;
}

-- ---- the pages that are kept

old_is : file ≡ head ++ (zeros 4096 ++ stored)
unfolding file_with front catalog_bytes zeros directory_bytes payload_bytes head stored
old_is = refl

long_head : length head ≡ 8192
unfolding head front catalog_bytes zeros
long_head = refl

long_log : length log_page ≡ 4096
unfolding log_page zeros
long_log = refl

long_zeros : length (zeros 4096) ≡ 4096
unfolding zeros
long_zeros = refl

long_stored : length stored ≡ 8192
unfolding stored directory_bytes payload_bytes zeros
long_stored = refl

long_added : length added ≡ 8192
unfolding added directory_bytes zeros
long_added = refl

pub length-both : (xs ys : List ℕ) → length (xs ++ ys) ≡ length xs + length ys
length-both [] ys = omega arith
length-both (x ∷ xs) ys = let later : length (xs ++ ys) ≡ length xs + length ys = length-both xs ys in omega (arith, later)

index_rest : (xs ys : List ℕ) (i k : ℕ) → i ≡ length xs + k → slice_index (xs ++ ys) i ≡ slice_index ys k
index_rest [] ys i k is = ap (slice_index ys) (let e : i ≡ k = omega (arith, is) in e)
index_rest (x ∷ xs) ys zero k is = absurd (omega (arith, is))
index_rest (x ∷ xs) ys (suc i) k is = index_rest xs ys i k (omega (arith, is))

-- a front that stays, a page that differs, and what stays behind it
pub kept_index : (a m n b c : List ℕ) (i : ℕ) → length m ≡ length n → (i < length a) ⊎ (length a + length m ≤ i) → i < length (a ++ (m ++ b)) → slice_index (a ++ (n ++ (b ++ c))) i ≡ slice_index (a ++ (m ++ b)) i
kept_index a m n b c i same (inl low) short = index_front a (n ++ (b ++ c)) i low ∙ sym (index_front a (m ++ b) i low)
kept_index a m n b c i same (inr high) short =
    let j : ℕ = i - length a in
    let k : ℕ = i - (length a + length m) in
    let first : i ≡ length a + j = omega (arith, high) in
    let second : j ≡ length n + k = omega (arith, high, same) in
    let third : j ≡ length m + k = omega (arith, high) in
    let whole : length (a ++ (m ++ b)) ≡ length a + length (m ++ b) = length-both a (m ++ b) in
    let behind : length (m ++ b) ≡ length m + length b = length-both m b in
    index_rest a (n ++ (b ++ c)) i j first ∙ index_rest n (b ++ c) j k second ∙ index_front b c k (omega (arith, short, whole, behind, high))
    ∙ sym (index_rest a (m ++ b) i j first ∙ index_rest m b j k third)

long_next : length next ≡ 28672
unfolding next
long_next =
    let a : length next ≡ length head + length (log_page ++ (stored ++ added)) = length-both head (log_page ++ (stored ++ added)) in
    let b : length (log_page ++ (stored ++ added)) ≡ length log_page + length (stored ++ added) = length-both log_page (stored ++ added) in
    let c : length (stored ++ added) ≡ length stored + length added = length-both stored added in
    omega (arith, a, b, c, long_head, long_log, long_stored, long_added)

pub long_old : length file ≡ 20480
unfolding file_with front catalog_bytes zeros directory_bytes payload_bytes
long_old = refl

split : (n : ℕ) → 2 ≢ n → (n ≤ 1) ⊎ (2 < n)
split zero other = inl (omega arith)
split (suc zero) other = inl (omega arith)
split (suc (suc zero)) other = absurd (other refl)
split (suc (suc (suc n))) other = inr (omega arith)

side : (number k : ℕ) → k < 4096 → (number ≤ 1) ⊎ (2 < number) → (4096 * number + k < length head) ⊎ (length head + length (zeros 4096) ≤ 4096 * number + k)
side number k low (inl less) = inl (omega (arith, low, less, long_head))
side number k low (inr more) = inr (omega (arith, more, long_head, long_zeros))

kept_others : (number k : ℕ) → IsNone (2 ∷ 5 ∷ 6 ∷ []) number → k < 4096 → 4096 * number + k < length file → slice_index next (4096 * number + k) ≡ slice_index file (4096 * number + k)
unfolding next
kept_others number k none low short =
    let i : ℕ = 4096 * number + k in
    let same : length (zeros 4096) ≡ length log_page = long_zeros ∙ sym long_log in
    let within : i < length (head ++ (zeros 4096 ++ stored)) = subst (λ (f : List ℕ). i < length f) old_is short in
    kept_index head (zeros 4096) log_page stored added i same (side number k low (split number (none 0 (omega arith)))) within ∙ sym (ap (λ (f : List ℕ). slice_index f i) old_is)

keeps : KeepsPages (2 ∷ 5 ∷ 6 ∷ []) file next
keeps = record {
  no_shorter = omega (arith, long_old, long_next);
  no_longer = λ most long each. let last : 4096 * (6 + 1) ≤ most = each 2 (omega arith) in omega (arith, last, long_next);
  others = kept_others;
}

-- ---- the pages that are free

free : AreFree (2 ∷ 1 ∷ 3 ∷ 4 ∷ []) (5 ∷ 6 ∷ [])
free = record { least = least; most = most; apart = apart; distinct = distinct }
  where
    least : (k : ℕ) → k < 2 → 0 < slice_index (5 ∷ 6 ∷ []) k
    least zero low = omega arith
    least (suc zero) low = omega arith
    least (suc (suc k)) low = absurd (omega arith)

    most : (k : ℕ) → k < 2 → slice_index (5 ∷ 6 ∷ []) k < 4294967296
    most zero low = omega arith
    most (suc zero) low = omega arith
    most (suc (suc k)) low = absurd (omega arith)

    apart : (k : ℕ) → k < 2 → IsNone (2 ∷ 1 ∷ 3 ∷ 4 ∷ []) (slice_index (5 ∷ 6 ∷ []) k)
    apart zero low = none_of_has (2 ∷ 1 ∷ 3 ∷ 4 ∷ []) 5 refl
    apart (suc zero) low = none_of_has (2 ∷ 1 ∷ 3 ∷ 4 ∷ []) 6 refl
    apart (suc (suc k)) low = absurd (omega arith)

    distinct : (i j : ℕ) → i < j → j < 2 → slice_index (5 ∷ 6 ∷ []) i ≢ slice_index (5 ∷ 6 ∷ []) j
    distinct zero zero less low same = absurd (omega arith)
    distinct (suc i) zero less low same = absurd (omega arith)
    distinct zero (suc zero) less low same = absurd (omega (arith, same))
    distinct (suc i) (suc zero) less low same = absurd (omega arith)
    distinct i (suc (suc j)) less low same = absurd (omega arith)

-- ---- the new version

directory_held : page_at page_size next 6 ≡ piece_of page_size (spelling made.directory) 0
unfolding page_size next head front catalog_bytes zeros log_page stored added directory_bytes payload_bytes spelling spell_entry
directory_held = refl

directory_has : HasBlob next (6 ∷ []) (spelling made.directory)
unfolding page_size spelling spell_entry
directory_has = record { held = held; enough = refl }
  where
    held : (k : ℕ) → k < 1 → page_at page_size next (slice_index (6 ∷ []) k) ≡ piece_of page_size (spelling made.directory) k
    held zero low = directory_held
    held (suc k) low = absurd (omega arith)

size_is : 40 ≡ length (spelling made.directory)
unfolding spelling spell_entry
size_is = refl

directory_rules : IsDirectory 1 made.directory
directory_rules = record {
  count = omega arith;
  each = (
    record {
      dimensions = refl;
      numbers = (omega arith, tt);
      birth = (omega arith, omega arith);
      payload = record { some = (omega arith, omega arith); count = (refl, omega arith); each = (omega arith, tt) };
    },
    tt,
  );
  rising = (tt, tt);
}

version_made : HoldsMade file next (entry ∷ []) 3 schema rows made
version_made = record { spelled = directory_has; size = size_is; rules = directory_rules; each = ((refl, omega arith), tt); listed = version_is.listed; payloads = (payload_is, tt) }

-- ---- the record

record_held : page_at page_size next 5 ≡ chain_piece page_size (5 ∷ []) (spell_record logged) 0
unfolding page_size next head front catalog_bytes zeros log_page stored added directory_bytes payload_bytes spell_record spell_name spell_blob
record_held = refl

record_has : HasChain next (5 ∷ []) (spell_record logged)
unfolding page_size spell_record spell_name spell_blob
record_has = record { held = held; enough = refl }
  where
    held : (k : ℕ) → k < 1 → page_at page_size next (slice_index (5 ∷ []) k) ≡ chain_piece page_size (5 ∷ []) (spell_record logged) k
    held zero low = record_held
    held (suc k) low = absurd (omega arith)

record_is : HoldsRecord (5 ∷ 6 ∷ []) file next slots found database change (Some made) (5 ∷ []) logged
record_is = record {
  kept = keeps;
  apart = (none_of_has (5 ∷ 6 ∷ []) 1 refl, (none_of_has (5 ∷ 6 ∷ []) 3 refl, (none_of_has (5 ∷ 6 ∷ []) 4 refl, tt)));
  free = free;
  is_its = refl;
  is_record = (refl, record { some = (omega arith, omega arith); count = (refl, omega arith); each = (omega arith, tt) });
  chained = record_has;
  version = version_made;
}

slots_next : slots_in next ≡ Ok (slots_with slots (record_at (5 ∷ []) (spell_record logged)))
unfolding slots_in number_at page_size next head front catalog_bytes zeros log_page stored added directory_bytes payload_bytes spell_record spell_name spell_blob
slots_next = refl

pub stored_again : AnArrayIsStoredAgain
stored_again = record {
  stands = stands_is;
  may = may_change;
  holds = record_is;
  next_stands = (stand_by next (slots_with slots (record_at (5 ∷ []) (spell_record logged))) (after database change) _ slots_next
      (records_make_next (5 ∷ 6 ∷ []) file next slots found database change (Some made) (5 ∷ []) logged stands_is may_change record_is)).1;
}
