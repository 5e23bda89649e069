-- An array that is removed by a new base, computed: what the law of bases asks, and what it says.
use Rattle.std.proofs.Common.{◌≡◌, ◌≢◌, ◌<◌, ◌≤◌, inr, ℕ, zero, suc, ◌+◌, ◌*◌, List, [], ◌∷◌, ◌++◌, length, slice_index, None, Ok, refl, sym, ◌∙◌, ap, subst, arith}
use Rattle.page_chain.specs.Places.{IsNone, KeepsPages, number_at}
use Rattle.page_chain.specs.declared.slots.layout.sides.Side.TheVariants.{B}
use Rattle.page_file.specs.Pages.{page_size, page_at}
use Rattle.page_file.specs.Chains.{chain_piece}
use Rattle.page_file.specs.Links.{AreFree}
use Rattle.version_catalog.specs.declared.rules.catalog.Catalog.{Catalog}
use Rattle.version_catalog.specs.Catalogs.{IsCatalog}
use Rattle.version_catalog.specs.Spelling.{spelling}
use Rattle.file_meaning.specs.Slots.{slots_in}
use Rattle.file_meaning.specs.Inner.FileExample.{database, zeros, front as old_front, catalog_bytes, directory_bytes, payload_bytes, file_with, file}
use Rattle.file_meaning.specs.Inner.NextExample.{stored, found, slots}
use Rattle.file_meaning.specs.Inner.Removed.{change, front, kept, added, next, AnArrayIsRemoved}
use Rattle.file_meaning.specs.Premises.{MayChange, HasChain, HoldsBase, root_at, slots_of}
use Rattle.file_meaning.proofs.Base.{bases_make_next}
use Rattle.file_meaning.proofs.BySlots.{stand_by}
use Rattle.file_meaning.proofs.Logged.{none_of_has}
use Rattle.file_meaning.proofs.WorkedNext.{stands_is, kept_index, length-both, long_old}

may_change : MayChange database change
may_change = record { named = refl; typed = (refl, tt); stores = tt; sound = refl }

-- ---- the pages that are kept

old_is : file ≡ old_front ++ kept
unfolding file_with old_front catalog_bytes zeros directory_bytes payload_bytes kept stored
old_is = refl

long_old_front : length old_front ≡ 4096
unfolding old_front zeros
long_old_front = refl

long_front : length front ≡ 4096
unfolding front zeros
long_front = refl

long_kept : length kept ≡ 16384
unfolding kept stored catalog_bytes directory_bytes payload_bytes zeros
long_kept = refl

long_added : length added ≡ 8192
unfolding added zeros
long_added = refl

long_next : length next ≡ 28672
unfolding next
long_next =
    let a : length next ≡ length front + length (kept ++ added) = length-both front (kept ++ added) in
    let b : length (kept ++ added) ≡ length kept + length added = length-both kept added in
    omega (arith, a, b, long_front, long_kept, long_added)

behind : (number : ℕ) → 0 ≢ number → 1 ≤ number
behind zero other = absurd (other refl)
behind (suc n) other = omega arith

kept_others : (number k : ℕ) → IsNone (0 ∷ 5 ∷ 6 ∷ []) number → k < 4096 → 4096 * number + k < length file → slice_index next (4096 * number + k) ≡ slice_index file (4096 * number + k)
unfolding next
kept_others number k none low short =
    let i : ℕ = 4096 * number + k in
    let same : length old_front ≡ length front = long_old_front ∙ sym long_front in
    let high : 0 + length old_front ≤ i = let more = behind number (none 0 (omega arith)) in omega (arith, more, long_old_front) in
    let within : i < length (old_front ++ kept) = subst (λ (f : List ℕ). i < length f) old_is short in
    kept_index [] old_front front kept added i same (inr high) within ∙ sym (ap (λ (f : List ℕ). slice_index f i) old_is)

keeps : KeepsPages (0 ∷ 5 ∷ 6 ∷ []) file next
keeps = record {
  no_shorter = omega (arith, long_old, long_next);
  no_longer = λ most long each. let last : 4096 * (6 + 1) ≤ most = each 2 (omega arith) in omega (arith, last, long_next);
  others = kept_others;
}

-- ---- the pages that are free

free : AreFree (1 ∷ 3 ∷ 4 ∷ []) (6 ∷ 5 ∷ [])
free = record { least = least; most = most; apart = apart; distinct = distinct }
  where
    least : (k : ℕ) → k < 2 → 0 < slice_index (6 ∷ 5 ∷ []) k
    least zero low = omega arith
    least (suc zero) low = omega arith
    least (suc (suc k)) low = absurd (omega arith)

    most : (k : ℕ) → k < 2 → slice_index (6 ∷ 5 ∷ []) k < 4294967296
    most zero low = omega arith
    most (suc zero) low = omega arith
    most (suc (suc k)) low = absurd (omega arith)

    apart : (k : ℕ) → k < 2 → IsNone (1 ∷ 3 ∷ 4 ∷ []) (slice_index (6 ∷ 5 ∷ []) k)
    apart zero low = none_of_has (1 ∷ 3 ∷ 4 ∷ []) 6 refl
    apart (suc zero) low = none_of_has (1 ∷ 3 ∷ 4 ∷ []) 5 refl
    apart (suc (suc k)) low = absurd (omega arith)

    distinct : (i j : ℕ) → i < j → j < 2 → slice_index (6 ∷ 5 ∷ []) i ≢ slice_index (6 ∷ 5 ∷ []) j
    distinct zero zero less low same = absurd (omega arith)
    distinct (suc i) zero less low same = absurd (omega arith)
    distinct zero (suc zero) less low same = absurd (omega (arith, same))
    distinct (suc i) (suc zero) less low same = absurd (omega arith)
    distinct i (suc (suc j)) less low same = absurd (omega arith)

-- ---- the base

abbrev none : Catalog
none = record { arrays = [] }

chain_held : page_at page_size next 5 ≡ chain_piece page_size (5 ∷ []) (spelling none) 0
unfolding page_size next front kept added stored catalog_bytes directory_bytes payload_bytes zeros spelling
chain_held = refl

chain_has : HasChain next (5 ∷ []) (spelling none)
unfolding page_size spelling
chain_has = record { held = held; enough = refl }
  where
    held : (k : ℕ) → k < 1 → page_at page_size next (slice_index (5 ∷ []) k) ≡ chain_piece page_size (5 ∷ []) (spelling none) k
    held zero low = chain_held
    held (suc k) low = absurd (omega arith)

no_array : IsCatalog none
no_array = record { names = record { count = omega arith; rising = tt; each = tt }; each = tt }

base_is : HoldsBase (5 ∷ 6 ∷ []) file next slots found database change None (5 ∷ []) 3 6
base_is = record {
  kept = keeps;
  apart = (none_of_has (5 ∷ 6 ∷ []) 1 refl, (none_of_has (5 ∷ 6 ∷ []) 3 refl, (none_of_has (5 ∷ 6 ∷ []) 4 refl, tt)));
  free = free;
  is_catalog = no_array;
  chained = chain_has;
  version = tt;
  later = omega arith;
}

slots_next : slots_in next ≡ Ok (slots_of B (root_at 3 (5 ∷ []) (spelling none) 6))
unfolding slots_in number_at page_size next front kept added stored catalog_bytes directory_bytes payload_bytes zeros spelling
slots_next = refl

pub removed : AnArrayIsRemoved
removed = record {
  stands = stands_is;
  may = may_change;
  holds = base_is;
  next_stands = (stand_by next (slots_of B (root_at 3 (5 ∷ []) (spelling none) 6)) [] _ slots_next
      (bases_make_next (5 ∷ 6 ∷ []) file next slots found database change None (5 ∷ []) 3 6 B stands_is may_change base_is)).1;
}
