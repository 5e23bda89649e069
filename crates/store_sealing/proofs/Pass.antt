-- What each image of a commit's moments stands for.
use Rattle.std.proofs.Common.{inl, inr, ⊎_elim, ◌<◌, ◌≤◌, ◌⊎◌, ◌≡◌, ℕ, Bool, true, false, if◌then◌else◌, List, [], ◌∷◌, ◌++◌, ◌∙◌, ap, sym, arith, append-nil}
use Rattle.std.proofs.lemmas.Bool.{cases_lt}
use Rattle.afl_outside.specs.Counts.{risen}
use Rattle.afl_outside.specs.Disk.{DiskState, LeavesOnly, Moment}
use Rattle.store_ledger.specs.declared.note.Note.{Note}
use Rattle.store_ledger.specs.declared.note.NoteKind.TheVariants.{Fault}
use Rattle.store_ledger.specs.Ledger.{LedgerState, is_fault, is_noted, note_now, with_notes}
use Rattle.prepared_commits.specs.Calls.{NotesFault}
use Rattle.prepared_commits.specs.Standings.{given_of}
use Rattle.store_sealing.specs.CellsLaws.{CommitsPassBy}
use Rattle.store_sealing.specs.Moves.{MayLeave}
use Rattle.store_sealing.proofs.Commit.{is_over, over}
use Rattle.store_sealing.proofs.Over.{May, may_leave}
use Rattle.store_sealing.proofs.Rest.{Rest}

leaves_by : (P Q : List ℕ → Type 0) (before now : ℕ) (past since : ℕ → List ℕ → Type 0) → ((c : List ℕ) → P c → Q c) → LeavesOnly before now past since P → LeavesOnly before now past since Q
leaves_by P Q before now past since go x = record {
  later = x.later;
  each = λ c left. go c (x.each c left);
  earlier = λ t c le left. ⊎_elim inl (λ here. inr (go c here)) (x.earlier t c le left);
}

pub commits_pass : Rest → {D : Type 0} (moment : D → Moment) → CommitsPassBy moment
commits_pass rest moment s k p db later disk w =
    let v = over rest moment s k p db w.ready w.cells w.began (given_of s) in
    let x = is_over rest moment s k p db w.ready w.cells w.began (given_of s) w.ready.kept.versions w.cells.is_found in
    leaves_by (May rest v p.base x (moment s.disk).may_leave w.cells.images) (MayLeave db s k p (moment s.disk).may_leave) (moment s.disk).state.moment (moment disk).state.moment
    (moment s.disk).left_since (moment disk).left_since (may_leave rest v p.base x (moment s.disk).may_leave w.cells.images) (w.writes.during w.cells.bytes w.cells.known)

-- ---- notes of faults

-- a ledger to which a fault was noted, or not, has more notes at most
pub noted_is : (old new : DiskState) (session : ℕ) (before ledger : LedgerState) → NotesFault old new session before ledger → (more : List Note) × (ledger ≡ with_notes more before)
noted_is old new session before ledger notes = by_cases (cases_lt new.faults (risen old.faults))
  where
    unchanged : ledger ≡ before → ledger ≡ with_notes [] before
    unchanged is = is ∙ ap (λ (ns : List Note). record before { notes = ns }) (sym (append-nil before.notes))

    by_noted : (b : Bool) → ledger ≡ (if b then before else with_notes (note_now Fault before session ∷ []) before) → (more : List Note) × (ledger ≡ with_notes more before)
    by_noted true is = ([], unchanged is)
    by_noted false is = (note_now Fault before session ∷ [], is)

    by_cases : (new.faults < risen old.faults) ⊎ (risen old.faults ≤ new.faults) → (more : List Note) × (ledger ≡ with_notes more before)
    by_cases (inl below) = ([], unchanged (notes.still (λ rose. omega (arith, below, rose))))
    by_cases (inr rose) = by_noted (is_noted is_fault before session) (notes.rose rose)
