-- What an image that holds what is known opens as.
use Rattle.std.proofs.Common.{◌≡◌, ◌<◌, ◌≤◌, ◌⊎◌, inl, inr, ⊎_elim, ℕ, ◌+◌, ◌*◌, List, [], ◌∷◌, ◌++◌, length, slice_index, true, Some, refl, sym, ◌∙◌, ap, subst, arith}
use Rattle.std.proofs.lemmas.Bool.{cases_eq, cases_lt}
use Rattle.page_chain.specs.Places.{gate_of, body_of, other}
use Rattle.page_chain.specs.Roots.{has_front, root_at, slot_in, current}
use Rattle.page_chain.specs.Opens.{HasLog, OpensAs}
use Rattle.page_chain.specs.declared.slots.layout.sides.Side.{Side}
use Rattle.page_chain.specs.declared.slots.layout.sides.Format.{Format}
use Rattle.page_chain.specs.declared.slots.layout.sides.Format.TheVariants.{One, Two}
use Rattle.page_chain.specs.declared.slots.layout.roots.Root.{Root}
use Rattle.page_chain.specs.declared.slots.layout.roots.OpenRoot.{OpenRoot}
use Rattle.page_chain.specs.declared.slots.layout.logs.RecordAt.{RecordAt}
use Rattle.page_chain.specs.Standing.{IsZeroed, OtherHolds, LogHolds, Holds, root_in, OpensAsRoot, OpensWith, MayOpen}
use Rattle.page_chain.specs.declared.slots.slots.slots.Slots.{Slots}
use Rattle.page_chain.specs.declared.slots.slots.slots.RootSlot.{RootSlot}
use Rattle.page_chain.specs.declared.slots.slots.slots.RootSlot.TheVariants as roots
use Rattle.page_chain.specs.declared.slots.slots.slots.NextEntry.{NextEntry}
use Rattle.page_chain.specs.declared.slots.slots.slots.NextEntry.TheVariants as entries
use Rattle.page_chain.proofs.RootImages.{is_newest, opened_cases, other_twice}
use Rattle.page_chain.proofs.LogImages.{page_log, page_pushed, empty_page}

pub same_sequence : (format : Format) (side : Side) (r : Root) → (root_in format side r).root.sequence ≡ r.sequence
same_sequence One side r = refl
same_sequence Two side r = refl

empty_log : (format : Format) (side : Side) (root : Root) (c : List ℕ) → IsZeroed root.log c → HasLog (root_in format side root).format (root_in format side root).root.log [] c
empty_log One side root c zero = refl
empty_log Two side root c zero = page_log root.log [] entries.Closed c ((empty_page root.log c zero).next) (empty_page root.log c zero)

root_opens : (known : RootSlot) (side : Side) (it : OpenRoot) (c : List ℕ) → has_front c ≡ true → slot_in side c ≡ Some it → OtherHolds known (other side) it.root.sequence c
    → (current c ≡ Some it) ⊎ OpensAsRoot known (other side) c
root_opens roots.Closed side it c front here hold = inl (is_newest side c it front here (inl hold))
root_opens roots.Older side it c front here hold =
    inl (is_newest side c it front here (⊎_elim (λ none. inl none) (λ open_. inr (root_in open_.0 (other side) (root_at (body_of (other side)) c), open_.1, older open_.0))
    (opened_cases (other side) (slice_index c (gate_of (other side))) (root_at (body_of (other side)) c))))
  where
    older : (format : Format) → (root_in format (other side) (root_at (body_of (other side)) c)).root.sequence < it.root.sequence
    older format = subst (λ (n : ℕ). n < it.root.sequence) (sym (same_sequence format (other side) (root_at (body_of (other side)) c))) hold
root_opens (roots.Written root) side it c front here hold = inl (is_newest side c it front here (inl hold.0))
root_opens (roots.Opening root) side it c front here hold =
    ⊎_elim (λ none. inl (is_newest side c it front here (inl none))) (λ open_. inr (open_.0, opens open_.0 open_.1))
    (opened_cases (other side) (slice_index c (gate_of (other side))) (root_at (body_of (other side)) c))
  where
    back : slot_in (other (other side)) c ≡ Some it
    back = subst (λ (s : Side). slot_in s c ≡ Some it) (sym (other_twice side)) here

    opens : (format : Format) → slot_in (other side) c ≡ Some (root_in format (other side) (root_at (body_of (other side)) c)) → OpensAs (root_in format (other side) root) [] c
    opens format is =
        let newer_root : it.root.sequence < (root_in format (other side) root).root.sequence = subst (λ (n : ℕ). it.root.sequence < n) (sym (same_sequence format (other side) root)) hold.2 in
        record {
          slot = is_newest (other side) c (root_in format (other side) root) front (is ∙ ap (λ (r : Root). Some (root_in format (other side) r)) hold.1) (inr (it, back, newer_root));
          log = empty_log format (other side) root c hold.0;
        }

-- the log with the record that was being opened
abbrev LogWith : NextEntry → Format → ℕ → List RecordAt → List ℕ → Type 0
LogWith entries.Closed format log records c = ⊥
LogWith (entries.Written entry) format log records c = ⊥
LogWith (entries.Opening entry) format log records c = HasLog format log (records ++ entry ∷ []) c

log_opens : (format : Format) (log : ℕ) (records : List RecordAt) (next : NextEntry) (c : List ℕ) → LogHolds format log records next c → HasLog format log records c ⊎ LogWith next format log records c
log_opens One log records next c hold = inl hold.0
log_opens Two log records entries.Closed c hold = inl (page_log log records entries.Closed c hold.next hold)
log_opens Two log records (entries.Written entry) c hold = inl (page_log log records (entries.Written entry) c (λ room. (hold.next room).0) hold)
log_opens Two log records (entries.Opening entry) c hold = ⊎_elim room full (cases_lt (length records) 64)
  where
    full : 64 ≤ length records → HasLog Two log records c ⊎ HasLog Two log (records ++ entry ∷ []) c
    full more = inl (page_log log records (entries.Opening entry) c (λ less. absurd (omega (arith, more, less))) hold)

    room : length records < 64 → HasLog Two log records c ⊎ HasLog Two log (records ++ entry ∷ []) c
    room less = ⊎_elim (λ is. let pushed = page_pushed log records entry c less is hold in inr (page_log log (records ++ entry ∷ []) entries.Closed c pushed.next pushed))
        (λ shut. inl (page_log log records (entries.Opening entry) c (λ _. shut) hold)) (cases_eq (slice_index c (4096 * log + 64 * length records)) 1)

with_next : (next : NextEntry) (it : OpenRoot) (records : List RecordAt) (c : List ℕ) → current c ≡ Some it → LogWith next it.format it.root.log records c → OpensWith next it records c
with_next entries.Closed it records c is log = log
with_next (entries.Written entry) it records c is log = log
with_next (entries.Opening entry) it records c is log = record { slot = is; log = log }

pub may_open : (slots : Slots) (c : List ℕ) → Holds slots c → MayOpen slots c
may_open slots c hold = ⊎_elim
    (λ is. ⊎_elim (λ log. inl (record { slot = is; log = log })) (λ more. inr (inr (with_next slots.next slots.current slots.records c is more)))
    (log_opens slots.current.format slots.current.root.log slots.records slots.next c hold.log))
    (λ newer_root. inr (inl newer_root)) (root_opens slots.other slots.current.side slots.current c hold.roots.front hold.roots.current hold.roots.other)
