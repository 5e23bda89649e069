-- The slots after a commit that was sealed, and where one stopped.
use Rattle.std.proofs.Common.{◌≡◌, ◌∙◌, ℕ, ◌+◌, ◌<◌, ◌≤◌, Bool, true, false, ◌||◌, if◌then◌else◌, nat_eq, List, [], ◌∷◌, ◌++◌, length, Option, None, Some, IsTrue, refl, ap, sym, subst, arith, length-append}
use Rattle.std.specs.Prelude.{nat_lt, is_some}
use Rattle.std.proofs.lemmas.Bool.{ltb-true, ltb-false, ne_eqb, eq-eqb, or_left, or_right}
use Rattle.std.proofs.lemmas.List.Folds.{list_any-append}
use Rattle.page_chain.specs.declared.slots.layout.logs.RecordAt.{RecordAt}
use Rattle.page_chain.specs.declared.slots.layout.sides.Format.{Format}
use Rattle.page_chain.specs.declared.slots.layout.sides.Format.TheVariants.{One, Two}
use Rattle.page_chain.specs.Standing.{IsAlone, IsStillRoot, IsStillEntry}
use Rattle.page_chain.specs.Steps.{emptied_root, emptied_entry, first_target, doubted}
use Rattle.page_chain.specs.declared.slots.slots.slots.Slots.{Slots}
use Rattle.page_chain.specs.declared.slots.slots.slots.RootSlot.{RootSlot}
use Rattle.page_chain.specs.declared.slots.slots.slots.RootSlot.TheVariants as roots
use Rattle.page_chain.specs.declared.slots.slots.slots.NextEntry.{NextEntry}
use Rattle.page_chain.specs.declared.slots.slots.slots.NextEntry.TheVariants as entries
use Rattle.page_chain.specs.declared.slots.slots.slots.Target.{Target}
use Rattle.page_chain.specs.declared.slots.slots.slots.Target.TheVariants as targets
use Rattle.version_reaper.specs.PageSets.{holds}
use Rattle.plan_changes.specs.declared.change.Change.{Change}
use Rattle.page_file.specs.declared.commits.placed.Placed.{Placed}
use Rattle.page_file.specs.declared.commits.stopped.Stopped.{Stopped}
use Rattle.page_file.specs.declared.commits.stopped.Stopped.TheVariants as stages
use Rattle.page_file.specs.Commits.{record_of}
use Rattle.event_core.specs.declared.entry.Used.{Used}
use Rattle.event_core.specs.declared.entry.Entry.TheVariants.{Commit}
use Rattle.event_core.specs.Bases.{Base, next_records, records_at, sequence_at}
use Rattle.event_core.specs.History.{History, catalogue_at}
use Rattle.prepared_commits.specs.Standings.{records_in}
use Rattle.prepared_commits.specs.Kept.{AreSlots}
use Rattle.prepared_commits.specs.Keeping.{is_opening, is_opening_root, is_opening_entry}
use Rattle.prepared_commits.specs.declared.commits.prepared.NewBase.{NewBase}
use Rattle.store_sealing.specs.Steps.{sealed_slots, stopped_slots, doubt_after}

-- ---- slots that were emptied

root_still : (root : RootSlot) → IsStillRoot root → IsStillRoot (emptied_root root)
root_still roots.Closed still = tt
root_still roots.Older still = tt
root_still (roots.Written root) still = tt
root_still (roots.Opening root) still = still

entry_still : (entry : NextEntry) → IsStillEntry entry → IsStillEntry (emptied_entry entry)
entry_still entries.Closed still = tt
entry_still (entries.Written entry) still = tt
entry_still (entries.Opening entry) still = still

root_shut : (root : RootSlot) → IsStillRoot root → is_opening_root (emptied_root root) ≡ false
root_shut roots.Closed still = refl
root_shut roots.Older still = refl
root_shut (roots.Written root) still = refl
root_shut (roots.Opening root) still = absurd still

entry_shut : (entry : NextEntry) → IsStillEntry entry → is_opening_entry (emptied_entry entry) ≡ false
entry_shut entries.Closed still = refl
entry_shut (entries.Written entry) still = refl
entry_shut (entries.Opening entry) still = absurd still

-- where the target is an entry of the log, no root is being opened, and the other way round
root_alone : (slots : Slots) → slots.target ≡ targets.Record → IsAlone slots.target slots → IsStillRoot slots.other
root_alone slots is alone = subst (λ (t : Target). IsAlone t slots) is alone

entry_alone : (slots : Slots) → slots.target ≡ targets.Root → IsAlone slots.target slots → IsStillEntry slots.next
entry_alone slots is alone = subst (λ (t : Target). IsAlone t slots) is alone

-- ---- a record

-- a log that has room for one more record
record HasRoom (format : Format) (count : ℕ) : Type 0 where
  two : format ≡ Two
  few : count < 64

room_by : (b : Bool) (count : ℕ) → nat_lt count 64 ≡ b → (if b then targets.Record else targets.Root) ≡ targets.Record → count < 64
room_by true count is e = ltb-true count 64 is
room_by false count is e = absurd cc

has_room : (format : Format) (count : ℕ) → first_target format count ≡ targets.Record → HasRoom format count
has_room One count e = absurd cc
has_room Two count e = record { two = refl; few = room_by (nat_lt count 64) count refl e }

one_more : (count : ℕ) → count < 64 → next_records (Some count) ≡ Some (count + 1)
one_more count few = ap (λ (b : Bool). if b then Some 0 else Some (count + 1)) (ne_eqb count 64 (λ e. omega (arith, e, few)))

alone_by : (target : Target) (slots : Slots) → IsStillRoot slots.other → IsStillEntry slots.next → IsAlone target slots
alone_by targets.Root slots root entry = entry
alone_by targets.Record slots root entry = root

record_records : (format : Format) (records : List RecordAt) (at : RecordAt) (before : Option ℕ) → HasRoom format (length records) → records_in format (length records) ≡ before →
    records_in format (length (records ++ at ∷ [])) ≡ next_records before
record_records One records at before room e = let no : One ≡ Two = room.two in absurd cc
record_records Two records at before room e =
    ap (λ (n : ℕ). Some n) (length-append records (at ∷ [])) ∙ sym (one_more (length records) room.few) ∙ ap next_records e

pub record_slots : (base : Base) (h : History) (slots : Slots) (session : ℕ) (change : Change) (used : Used) (chain : Placed) →
    slots.target ≡ targets.Record → used.catalogue ≡ catalogue_at base.core h ++ chain.pages → AreSlots base h slots →
    AreSlots base (Commit session change used ∷ h) (sealed_slots None chain slots)
record_slots base h slots session change used chain is told x =
    let room : HasRoom slots.current.format (length slots.records) = has_room slots.current.format (length slots.records) (sym x.target ∙ is) in
    let more : length (slots.records ++ record_of chain ∷ []) ≡ length slots.records + 1 = length-append slots.records (record_of chain ∷ []) in
    let before = x.sequence in
    record {
      sequence = omega (arith, before, more);
      records = record_records slots.current.format slots.records (record_of chain) (records_at base.records h) room x.records;
      fits = let few = room.few in omega (arith, more, few);
      log = subst (λ (pages : List ℕ). IsTrue (holds (0 ∷ pages) slots.current.root.log)) (sym told)
          (list_any-append (λ page. nat_eq page slots.current.root.log) (0 ∷ catalogue_at base.core h) chain.pages
          ∙ or_left (holds (0 ∷ catalogue_at base.core h) slots.current.root.log) (holds chain.pages slots.current.root.log) x.log);
      target = ap (λ (n : ℕ). first_target Two n) (sym more) ∙ ap (λ (f : Format). first_target f (length (slots.records ++ record_of chain ∷ []))) (sym room.two);
      alone = alone_by (first_target Two (length slots.records + 1)) (sealed_slots None chain slots) (root_still slots.other (root_alone slots is x.alone)) tt;
    }

-- ---- a new base

-- a log without room for one more record, if there is one
record HasNone (format : Format) (count : ℕ) : Type 0 where
  full : format ≡ Two → 64 ≤ count

full_by : (b : Bool) (count : ℕ) → nat_lt count 64 ≡ b → (if b then targets.Record else targets.Root) ≡ targets.Root → 64 ≤ count
full_by true count is e = absurd cc
full_by false count is e = ltb-false count 64 is

has_none : (count : ℕ) → first_target Two count ≡ targets.Root → 64 ≤ count
has_none count e = full_by (nat_lt count 64) count refl e

base_records : (format : Format) (count : ℕ) → count ≤ 64 → first_target format count ≡ targets.Root → Some 0 ≡ next_records (records_in format count)
base_records One count few e = refl
base_records Two count few e =
    let full = has_none count e in
    let last : count ≡ 64 = omega (arith, few, full) in
    sym (ap (λ (b : Bool). if b then Some 0 else Some (count + 1)) (eq-eqb count 64 last))

pub base_slots : (base : Base) (h : History) (slots : Slots) (session : ℕ) (change : Change) (used : Used) (new : NewBase) (chain : Placed) →
    length slots.records ≤ 64 → slots.target ≡ targets.Root → new.sequence ≡ sequence_at base h + 1 → used.catalogue ≡ chain.pages ++ new.log ∷ [] → AreSlots base h slots →
    AreSlots base (Commit session change used ∷ h) (sealed_slots (Some new) chain slots)
base_slots base h slots session change used new chain few is next told x = record {
  sequence = omega (arith, next);
  records = base_records slots.current.format (length slots.records) few (sym x.target ∙ is) ∙ ap next_records x.records;
  fits = omega arith;
  log = subst (λ (pages : List ℕ). IsTrue (holds (0 ∷ pages) new.log)) (sym told)
      (list_any-append (λ page. nat_eq page new.log) (0 ∷ chain.pages) (new.log ∷ [])
      ∙ or_right (holds (0 ∷ chain.pages) new.log) (holds (new.log ∷ []) new.log) (or_left (nat_eq new.log new.log) false (eq-eqb new.log new.log refl)));
  target = refl;
  alone = tt;
}

-- ---- nothing stands open then

pub sealed_shut : (base : Option NewBase) (chain : Placed) (slots : Slots) → (base ≡ None → slots.target ≡ targets.Record) → IsAlone slots.target slots →
    is_opening (sealed_slots base chain slots) ≡ false
sealed_shut None chain slots is alone = ap (λ (b : Bool). b || false) (root_shut slots.other (root_alone slots (is refl) alone))
sealed_shut (Some base) chain slots is alone = refl

-- ---- where it stopped

-- the target of a commit: an entry of the log for a record, the other root for a new base
abbrev pub target_of : Option NewBase → Target
target_of None = targets.Record
target_of (Some base) = targets.Root

pub stopped_are_slots : (at : Base) (h : History) (stage : Stopped) (base : Option NewBase) (chain : Placed) (slots later : Slots) → slots.target ≡ target_of base → AreSlots at h slots →
    AreSlots at h (stopped_slots stage base chain slots later)
stopped_are_slots at h stages.Closing base chain slots later is x =
    record { sequence = x.sequence; records = x.records; fits = x.fits; log = x.log; target = x.target; alone = same slots.target x.alone }
  where
    same : (target : Target) → IsAlone target slots → IsAlone target (doubted slots)
    same targets.Root alone = alone
    same targets.Record alone = alone
stopped_are_slots at h stages.Filling None chain slots later is x = record {
  sequence = x.sequence;
  records = x.records;
  fits = x.fits;
  log = x.log;
  target = x.target;
  alone = alone_by slots.target (stopped_slots stages.Filling None chain slots later) (root_still slots.other (root_alone slots is x.alone)) tt;
}
stopped_are_slots at h stages.Filling (Some base) chain slots later is x = record {
  sequence = x.sequence;
  records = x.records;
  fits = x.fits;
  log = x.log;
  target = x.target;
  alone = alone_by slots.target (stopped_slots stages.Filling (Some base) chain slots later) tt (entry_still slots.next (entry_alone slots is x.alone));
}
stopped_are_slots at h stages.Opening None chain slots later is x = record {
  sequence = x.sequence;
  records = x.records;
  fits = x.fits;
  log = x.log;
  target = x.target;
  alone = subst (λ (t : Target). IsAlone t (stopped_slots stages.Opening None chain slots later)) (sym is) (root_still slots.other (root_alone slots is x.alone));
}
stopped_are_slots at h stages.Opening (Some base) chain slots later is x = record {
  sequence = x.sequence;
  records = x.records;
  fits = x.fits;
  log = x.log;
  target = x.target;
  alone = subst (λ (t : Target). IsAlone t (stopped_slots stages.Opening (Some base) chain slots later)) (sym is) (entry_still slots.next (entry_alone slots is x.alone));
}

or_true : (b : Bool) → (b || true) ≡ true
or_true true = refl
or_true false = refl

pub stopped_doubt : (stage : Stopped) (base : Option NewBase) (chain : Placed) (slots later : Slots) (doubt : Option Change) (change : Change) → slots.target ≡ target_of base →
    IsAlone slots.target slots → is_opening slots ≡ is_some doubt → is_opening (stopped_slots stage base chain slots later) ≡ is_some (doubt_after stage doubt change)
stopped_doubt stages.Closing base chain slots later doubt change is alone before = before
stopped_doubt stages.Filling None chain slots later doubt change is alone before = ap (λ (b : Bool). b || false) (root_shut slots.other (root_alone slots is alone))
stopped_doubt stages.Filling (Some base) chain slots later doubt change is alone before = entry_shut slots.next (entry_alone slots is alone)
stopped_doubt stages.Opening None chain slots later doubt change is alone before = or_true (is_opening_root (emptied_root slots.other))
stopped_doubt stages.Opening (Some base) chain slots later doubt change is alone before = refl
