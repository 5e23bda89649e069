-- What a store holds where a commit stopped.
use Rattle.std.proofs.Common.{◌≡◌, ℕ, ◌+◌, List, Option, None, Some, IfSome, refl, sym, subst}
use Rattle.afl_outside.specs.Disk.{Moment}
use Rattle.page_chain.specs.declared.slots.slots.slots.Slots.{Slots}
use Rattle.plan_changes.specs.declared.change.Change.{Change}
use Rattle.plan_changes.specs.Databases.{Database}
use Rattle.page_file.specs.declared.commits.placed.Placed.{Placed}
use Rattle.page_file.specs.declared.commits.stopped.Stopped.{Stopped}
use Rattle.page_file.specs.declared.commits.stopped.Stopped.TheVariants as stages
use Rattle.page_file.specs.Moments.{IsKnown}
use Rattle.event_core.specs.declared.state.Core.{Core}
use Rattle.event_core.specs.Cells.{at}
use Rattle.event_core.specs.History.{History}
use Rattle.store_ledger.specs.Ledger.{LedgerState, history}
use Rattle.prepared_commits.specs.Cells.{HoldsCells, IsFound}
use Rattle.prepared_commits.specs.Standings.{HaveStood, IsAttempt, Standing, commit_places, given_of}
use Rattle.prepared_commits.specs.Keeping.{Keeping}
use Rattle.prepared_commits.proofs.AtOn.{cells_noted}
use Rattle.prepared_commits.proofs.Lists.{zip_map}
use Rattle.store_sealing.proofs.Moments.{have_stood_by}
use Rattle.prepared_commits.specs.declared.commits.prepared.NewBase.{NewBase}
use Rattle.prepared_commits.specs.declared.commits.prepared.Prepared.{Prepared}
use Rattle.store_sealing.specs.Steps.{doubt_after, stopped, stopped_keeping, stopped_slots}
use Rattle.store_sealing.specs.CellsLaws.{IsWritten, StoppedCellsAreHeld}
use Rattle.store_sealing.specs.Moves.{StopsAt}
use Rattle.store_sealing.proofs.Commit.{is_over, over}
use Rattle.store_sealing.proofs.Over.{IsOver, May, Over, StoppedIn, have_stood, stopped_image}
use Rattle.store_sealing.proofs.Pass.{noted_is}
use Rattle.store_sealing.proofs.Rest.{Rest}

same_log : (stage : Stopped) (o : Option NewBase) (chain : Placed) (slots later : Slots) → slots.current.root.log ≡ (stopped_slots stage o chain slots later).current.root.log
same_log stages.Closing o chain slots later = refl
same_log stages.Filling None chain slots later = refl
same_log stages.Filling (Some base) chain slots later = refl
same_log stages.Opening None chain slots later = refl
same_log stages.Opening (Some base) chain slots later = refl

tried_after : (P : Change → Type 0) (stage : Stopped) (doubt : Option Change) (change : Change) → IfSome doubt P → P change → IfSome (doubt_after stage doubt change) P
tried_after P stages.Closing doubt change before its = before
tried_after P stages.Filling doubt change before its = tt
tried_after P stages.Opening doubt change before its = its

module _ (rest : Rest) {D : Type 0} (moment : D → Moment) (s : Standing D) (k : Keeping) (p : Prepared) (db : Database) (later : Slots) (disk : D)
    (w : IsWritten moment s k p db later disk) where
  abbrev h : History
  h = history s.ledger

  abbrev core : Core
  core = s.ledger.base

  abbrev its : Over
  its = over rest moment s k p db w.ready w.cells w.began (given_of s)

  is_its : IsOver its p.base
  is_its = is_over rest moment s k p db w.ready w.cells w.began (given_of s) w.ready.kept.versions w.cells.is_found

  slots_are : (stage : Stopped) (o : Option NewBase) → StopsAt o stage k.slots later p.blobs p.chain (moment s.disk) (moment disk) → later ≡ stopped_slots stage o p.chain k.slots later
  slots_are stages.Closing None stops = stops.slots_are
  slots_are stages.Closing (Some base) stops = stops.slots_are
  slots_are stages.Filling None stops = stops.slots_are
  slots_are stages.Filling (Some base) stops = stops.slots_are
  slots_are stages.Opening None stops = stops.slots_are
  slots_are stages.Opening (Some base) stops = stops.slots_are

  stops_in : (stage : Stopped) (o : Option NewBase) → StopsAt o stage k.slots later p.blobs p.chain (moment s.disk) (moment disk) → (c : List ℕ) → (moment disk).may_leave c
      → StoppedIn stage its o (moment s.disk).may_leave c
  stops_in stages.Closing None stops c left = stops.images w.cells.bytes w.cells.known c left
  stops_in stages.Closing (Some base) stops c left = stops.images w.cells.bytes w.cells.known c left
  stops_in stages.Filling None stops c left = stops.images w.cells.bytes w.cells.known c left
  stops_in stages.Filling (Some base) stops c left = stops.images w.cells.bytes w.cells.known c left
  stops_in stages.Opening None stops c left = stops.images w.cells.bytes w.cells.known c left
  stops_in stages.Opening (Some base) stops c left = stops.images w.cells.bytes w.cells.known c left

  stood_on : (least since : ℕ) → HaveStood (moment s.disk) db s.ledger.notes h least since → HaveStood (moment disk) db s.ledger.notes h least since
  stood_on least since x = have_stood_by (May rest its p.base is_its (moment s.disk).may_leave w.cells.images) (moment s.disk) (moment disk) db s.ledger.notes h least since
      (have_stood rest its p.base is_its (moment s.disk).may_leave w.cells.images) (w.writes.during w.cells.bytes w.cells.known) x

  holds_stopped : (stage : Stopped) → StopsAt p.base stage k.slots later p.blobs p.chain (moment s.disk) (moment disk)
      → HoldsCells moment (stopped stage s p s.ledger disk) (stopped_keeping stage k p later) db h (given_of s) (commit_places 0 s.ledger.entries)
  holds_stopped stage stops =
      let known = w.writes.known w.cells.bytes w.cells.known in
      record {
        legal = w.cells.legal;
        database = w.cells.database;
        pinned = w.cells.pinned;
        doubt = tried_after (IsAttempt db s.ledger.notes h) stage s.doubt p.commit.change w.cells.doubt is_its.sound;
        bytes = known.0;
        known = subst (λ (slots : Slots). IsKnown slots known.0 (moment disk)) (slots_are stage p.base stops) known.1;
        found = w.cells.found;
        is_found = subst (λ (log : ℕ). IsFound core (given_of s) h k.catalog log w.cells.found) (same_log stage p.base p.chain k.slots later) w.cells.is_found;
        images = λ image left. stopped_image rest its p.base is_its (moment s.disk).may_leave w.cells.images stage later image (stops_in stage p.base stops image left);
        past = stood_on 0 _ w.cells.past;
        acked = zip_map (λ place since. HaveStood (moment s.disk) db s.ledger.notes h (place + 1) since) (λ place since. HaveStood (moment disk) db s.ledger.notes h (place + 1) since)
            (λ place since x. stood_on (place + 1) since x) (commit_places 0 s.ledger.entries) s.acked w.cells.acked;
      }

pub stopped_cells : Rest → {D : Type 0} (moment : D → Moment) → StoppedCellsAreHeld moment
stopped_cells rest moment s k p db later stage ledger disk w stops notes =
    let noted = noted_is (moment s.disk).state (moment disk).state p.session s.ledger ledger notes in
    subst (λ (l : LedgerState). HoldsCells moment (stopped stage s p l disk) (stopped_keeping stage k p later) db (history l) (given_of (stopped stage s p l disk)) (commit_places 0 l.entries))
    (sym noted.1)
    (cells_noted moment (stopped stage s p s.ledger disk) (stopped_keeping stage k p later) (history s.ledger) (given_of s) noted.0 db (commit_places 0 s.ledger.entries)
    (holds_stopped rest moment s k p db later disk w stage stops))
