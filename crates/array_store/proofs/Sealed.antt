-- What a commit that is sealed, or stops, adds to the events.
use Rattle.std.proofs.Common.{◌≡◌, ℕ, List, [], ◌∷◌, ◌++◌, length, Result, Ok, Err, IfOk, OnErr, MatchResult, refl, sym, subst, append-nil}
use Rattle.afl_outside.specs.declared.source.Failed.{Failed}
use Rattle.afl_outside.specs.Disk.{Moment}
use Rattle.page_file.specs.declared.commits.stopped.Stopped.{Stopped}
use Rattle.store_ledger.specs.Ledger.{LedgerState, with_fault}
use Rattle.store_opening.specs.Event.{Event}
use Rattle.store_opening.specs.Event.TheVariants.{Acknowledged}
use Rattle.store_opening.specs.Calls.{NotesFault}
use Rattle.store_opening.specs.Events.{events}
use Rattle.store_opening.specs.Standings.{Standing}
use Rattle.prepared_commits.specs.declared.commits.prepared.Prepared.{Prepared}
use Rattle.store_sealing.specs.Steps.{entry_of, made_by, sealed, sealed_ledger, stopped}
use Rattle.array_store.specs.Growth.{AddsEvents, AddsFault, IsCounted, fault_events}
use Rattle.array_store.specs.Sealing.{AddsCommit}
use Rattle.array_store.proofs.Added.{commits_add_events, faults_add_events}
use Rattle.array_store.proofs.Tried.{adds_both}

module _ {D : Type 0} (moment : D → Moment) (s : Standing D) (p : Prepared) (counted : IsCounted s) (ledger : LedgerState) (disk : D)
    (n : NotesFault (moment s.disk).state (moment disk).state p.session (sealed_ledger s p) ledger) where
  abbrev event : Event
  event = Acknowledged (entry_of p) (moment disk).state.moment (made_by p)

  commit : AddsEvents (event ∷ []) s (sealed moment s p (sealed_ledger s p) disk)
  commit =
      let a : AddsEvents (event ∷ []) s (record s { ledger = sealed_ledger s p; acked = s.acked ++ (moment disk).state.moment ∷ []; made = s.made ++ made_by p ∷ [] }) =
      commits_add_events D s p.session p.commit.change p.commit.used (moment disk).state.moment (made_by p) counted in
      record { start = a.start; grown = a.grown }

  over : (more : List Event) (l : LedgerState) → AddsEvents more s (sealed moment s p l disk) → ledger ≡ l → AddsEvents more s (sealed moment s p ledger disk)
  over more l a e = subst (λ (x : LedgerState). AddsEvents more s (sealed moment s p x disk)) (sym e) a

  pub adds_commit : AddsCommit moment p s (sealed moment s p ledger disk)
  adds_commit =
      let t : Standing D = sealed moment s p (sealed_ledger s p) disk in
      let faults : List Event = fault_events (sealed_ledger s p) p.session in
      record {
        rose = λ rose. over (event ∷ faults) (with_fault p.session (sealed_ledger s p))
            (adds_both (event ∷ []) faults s t (sealed moment s p (with_fault p.session (sealed_ledger s p)) disk) commit (faults_add_events D t p.session)) (n.rose rose);
        still = λ still. over (event ∷ []) (sealed_ledger s p) commit (n.still still);
      }

module _ {D : Type 0} (moment : D → Moment) (s : Standing D) (p : Prepared) (stage : Stopped) (ledger : LedgerState) (disk : D)
    (n : NotesFault (moment s.disk).state (moment disk).state p.session s.ledger ledger) where
  stop_over : (more : List Event) (l : LedgerState) → AddsEvents more s (record s { ledger = l }) → ledger ≡ l → AddsEvents more s (stopped stage s p ledger disk)
  stop_over more l a e =
      let over : AddsEvents more s (stopped stage s p l disk) = record { start = a.start; grown = a.grown } in
      subst (λ (x : LedgerState). AddsEvents more s (stopped stage s p x disk)) (sym e) over

  pub adds_stopped : AddsFault moment p.session s (stopped stage s p ledger disk)
  adds_stopped = record {
    rose = λ rose. stop_over (fault_events s.ledger p.session) (with_fault p.session s.ledger) (faults_add_events D s p.session) (n.rose rose);
    still = λ still. stop_over [] s.ledger (record { start = refl; grown = sym (append-nil (events s)) }) (n.still still);
  }

pub seal_adds : {D : Type 0} (moment : D → Moment) (s new : Standing D) (p : Prepared) → IsCounted s → (result : Result ℕ Failed)
    → IfOk result (λ place. (place ≡ length s.ledger.entries) × (new ≡ sealed moment s p new.ledger new.disk))
    → OnErr result ((stage : Stopped) × (new ≡ stopped stage s p new.ledger new.disk))
    → MatchResult result
    (λ _. NotesFault (moment s.disk).state (moment new.disk).state p.session (sealed_ledger s p) new.ledger)
    (λ _. NotesFault (moment s.disk).state (moment new.disk).state p.session s.ledger new.ledger)
    → MatchResult result (λ _. AddsCommit moment p s new) (λ _. AddsFault moment p.session s new)
seal_adds moment s new p counted (Ok place) ok err noted =
    subst (AddsCommit moment p s) (sym ok.1) (adds_commit moment s p counted new.ledger new.disk noted)
seal_adds moment s new p counted (Err failed) ok err noted =
    subst (AddsFault moment p.session s) (sym err.1) (adds_stopped moment s p err.0 new.ledger new.disk noted)
