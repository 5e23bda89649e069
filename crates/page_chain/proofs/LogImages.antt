-- What images hold of the log page, before a write and after it.
use Rattle.std.proofs.Common.{◌≡◌, ◌≢◌, ◌<◌, ◌≤◌, inl, inr, ⊎_elim, ℕ, ◌+◌, ◌*◌, List, [], ◌∷◌, ◌++◌, length, slice_index, slice_index_or, sym, ◌∙◌, subst, arith, length-append}
use Rattle.std.proofs.lemmas.List.{get_or_append_left, get_or_push}
use Rattle.std.proofs.lemmas.Bool.{cases_eq, cases_lt}
use Rattle.page_chain.specs.Places.{IsPage, SameBut}
use Rattle.page_chain.specs.Logs.{record_at, IsLog}
use Rattle.page_chain.specs.declared.slots.layout.sides.Format.{Format}
use Rattle.page_chain.specs.declared.slots.layout.sides.Format.TheVariants.{One, Two}
use Rattle.page_chain.specs.declared.slots.layout.logs.RecordAt.{RecordAt}
use Rattle.page_chain.proofs.SlotsKept.{record_kept}
use Rattle.page_chain.specs.Standing.{NextHolds, PageHolds, LogHolds, IsZeroed}
use Rattle.page_chain.specs.declared.slots.slots.slots.NextEntry.{NextEntry}
use Rattle.page_chain.specs.declared.slots.slots.slots.NextEntry.TheVariants as entries

next_kept : (next : NextEntry) (at : ℕ) (d c : List ℕ) → ((k : ℕ) → at ≤ k → k < at + 20 → slice_index c k ≡ slice_index d k) → NextHolds next at d → NextHolds next at c
next_kept entries.Closed at d c same hold = λ is. hold (sym (same at (omega arith) (omega arith)) ∙ is)
next_kept (entries.Written entry) at d c same hold = (λ is. hold.0 (sym (same at (omega arith) (omega arith)) ∙ is), record_kept (at + 8) d c (λ k low high. same k (omega arith) (omega arith)) ∙ hold.1)
next_kept (entries.Opening entry) at d c same hold = record_kept (at + 8) d c (λ k low high. same k (omega arith) (omega arith)) ∙ hold

-- the log page is as it was
pub page_kept : (log : ℕ) (records : List RecordAt) (next : NextEntry) (d c : List ℕ) → length d ≤ length c → ((k : ℕ) → 4096 * log ≤ k → k < 4096 * log + 4096 → slice_index c k ≡ slice_index d k)
    → PageHolds log records next d → PageHolds log records next c
page_kept log records next d c longer same hold = record {
  is_page = record { least = hold.is_page.least; within = omega (arith, hold.is_page.within, longer) };
  fits = hold.fits;
  opened = λ k low. same (4096 * log + 64 * k) (omega arith) (omega (arith, hold.fits)) ∙ hold.opened k low;
  next = λ room. next_kept next (4096 * log + 64 * length records) d c (λ k low high. same k (omega arith) (omega arith)) (hold.next room);
  closed = λ k low high. λ is. hold.closed k low high (sym (same (4096 * log + 64 * k) (omega arith) (omega arith)) ∙ is);
  each = λ d' k low. hold.each d' k low ∙ sym (record_kept (4096 * log + 64 * k + 8) d c (λ m from to. same m (omega arith) (omega (arith, hold.fits))));
}

pub log_kept : (format : Format) (log : ℕ) (records : List RecordAt) (next : NextEntry) (d c : List ℕ) → length d ≤ length c
    → ((k : ℕ) → 4096 * log ≤ k → k < 4096 * log + 4096 → slice_index c k ≡ slice_index d k) → LogHolds format log records next d → LogHolds format log records next c
log_kept One log records next d c longer same hold = hold
log_kept Two log records next d c longer same hold = page_kept log records next d c longer same hold

-- a write in page 0 leaves the log
pub log_apart : (format : Format) (log : ℕ) (records : List RecordAt) (next : NextEntry) (at n : ℕ) (d c : List ℕ) → at + n ≤ 4096 → SameBut at n d c → LogHolds format log records next d → LogHolds format log records next c
log_apart One log records next at n d c low same hold = hold
log_apart Two log records next at n d c low same hold = page_kept log records next d c (omega (arith, same.size)) (λ k from to. same.each k (inr (omega (arith, hold.is_page.least)))) hold

-- a write in the entry behind the open ones, after which that one holds what is said
pub next_changed : (log : ℕ) (records : List RecordAt) (known next : NextEntry) (d c : List ℕ) → SameBut (4096 * log + 64 * length records) 20 d c → PageHolds log records known d
    → (length records < 64 → NextHolds next (4096 * log + 64 * length records) c) → PageHolds log records next c
next_changed log records known next d c same hold new = record {
  is_page = record { least = hold.is_page.least; within = omega (arith, hold.is_page.within, same.size) };
  fits = hold.fits;
  opened = λ k low. same.each (4096 * log + 64 * k) (inl (omega arith)) ∙ hold.opened k low;
  next = new;
  closed = λ k low high. λ is. hold.closed k low high (sym (same.each (4096 * log + 64 * k) (inr (omega arith))) ∙ is);
  each = λ d' k low. hold.each d' k low ∙ sym (record_kept (4096 * log + 64 * k + 8) d c (λ m from to. same.each m (inl (omega arith))));
}

-- the entry's gate was written, and its body is as it was
pub entry_kept : (at : ℕ) (d c : List ℕ) → SameBut at 1 d c → record_at (at + 8) c ≡ record_at (at + 8) d
entry_kept at d c same = record_kept (at + 8) d c (λ k low high. same.each k (inr (omega arith)))

-- an entry that is open has come into the log
pub page_pushed : (log : ℕ) (records : List RecordAt) (entry : RecordAt) (c : List ℕ) → length records < 64 → slice_index c (4096 * log + 64 * length records) ≡ 1
    → PageHolds log records (entries.Opening entry) c → PageHolds log (records ++ entry ∷ []) entries.Closed c
page_pushed log records entry c room gate hold =
    let more : length (records ++ entry ∷ []) ≡ length records + 1 = length-append records (entry ∷ []) in
    record {
      is_page = hold.is_page;
      fits = omega (arith, more);
      opened = λ k low. ⊎_elim (hold.opened k) (λ rest. subst (λ (m : ℕ). slice_index c (4096 * log + 64 * m) ≡ 1) (omega (arith, more)) gate) (cases_lt k (length records));
      next = λ less. hold.closed (length (records ++ entry ∷ [])) (omega (arith, more)) less;
      closed = λ k low high. hold.closed k (omega (arith, more)) high;
      each = λ d k low. ⊎_elim (λ front. get_or_append_left records (entry ∷ []) d k front ∙ hold.each d k front) (λ rest. at_end d k (omega (arith, more))) (cases_lt k (length records));
    }
  where
    at_end : (d : RecordAt) (k : ℕ) → length records ≡ k → slice_index_or (records ++ entry ∷ []) k d ≡ record_at (4096 * log + 64 * k + 8) c
    at_end d k is = get_or_push records entry d k is ∙ subst (λ (m : ℕ). entry ≡ record_at (4096 * log + 64 * m + 8) c) is (sym (hold.next room))

-- the log that the page has
pub page_log : (log : ℕ) (records : List RecordAt) (next : NextEntry) (c : List ℕ) → (length records < 64 → slice_index c (4096 * log + 64 * length records) ≢ 1) → PageHolds log records next c
    → IsPage log (length c) × IsLog (4096 * log) records c
page_log log records next c shut hold = (
  hold.is_page,
  record {
    fits = hold.fits;
    opened = hold.opened;
    closed = λ k low high. ⊎_elim (λ (at_end : k ≡ length records). subst (λ (m : ℕ). slice_index c (4096 * log + 64 * m) ≢ 1) (sym at_end) (shut (below k at_end high))) (λ apart. hold.closed k (behind k low apart) high) (cases_eq k (length records));
    each = hold.each;
  },
)
  where
    below : (k : ℕ) → k ≡ length records → k < 64 → length records < 64
    below k is high = omega arith

    behind : (k : ℕ) → length records ≤ k → k ≢ length records → length records < k
    behind k low apart = omega arith

-- a page of zeros is an empty log
pub empty_page : (log : ℕ) (c : List ℕ) → IsZeroed log c → PageHolds log [] entries.Closed c
empty_page log c zero = record {
  is_page = zero.is_page;
  fits = omega arith;
  opened = λ k low. absurd (omega arith);
  next = λ room. λ is. nonzero (sym (zero.zeros (64 * 0) (omega arith)) ∙ is);
  closed = λ k low high. λ is. nonzero (sym (zero.zeros (64 * k) (omega arith)) ∙ is);
  each = λ d k low. absurd (omega arith);
}
  where
    nonzero : ◌≡◌ {A = ℕ} 0 1 → ⊥
    nonzero is = omega arith
