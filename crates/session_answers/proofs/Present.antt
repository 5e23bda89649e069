-- What a statement says where the names and the database are those of the store in hand.
use Rattle.std.proofs.Common.{◌≡◌, ◌∙◌, ℕ, ◌-◌, Bool, true, false, List, [], ◌∷◌, ◌++◌, length, drop, reverse, if◌then◌else◌, refl, ap, sym, subst, arith, append-nil}
use Rattle.std.proofs.lemmas.List.{length-reverse, reverse-append}
use Rattle.afl_outside.specs.Disk.{Moment}
use Rattle.afl_trees.specs.Term.{Term}
use Rattle.logical_plan.specs.declared.names.Names.{Names}
use Rattle.plan_changes.specs.Databases.{Database}
use Rattle.afl_types.specs.Checking.{check_of}
use Rattle.event_core.specs.Cells.{at}
use Rattle.event_core.specs.declared.entry.Entry.{Entry}
use Rattle.event_core.specs.declared.entry.Entry.TheVariants.{Reap}
use Rattle.event_core.specs.declared.state.Core.{Core}
use Rattle.event_core.specs.History.{History, names_at, up_to}
use Rattle.statement_replies.specs.declared.answers.outcome.Outcome.{Outcome}
use Rattle.statement_replies.specs.Outcomes.{HasOutcomeKind, IsOutcomeOf, IsToldBy}
use Rattle.statement_replies.specs.Statements.{reply_to}
use Rattle.statement_replies.specs.declared.replies.style.Style.{Style}
use Rattle.snapshot_manager.specs.Turn.{Turn}
use Rattle.store_ledger.specs.Ledger.{history}
use Rattle.store_state.specs.declared.state.event.Event.{Event}
use Rattle.store_state.specs.declared.state.parts.StoreParts.{StoreParts}
use Rattle.store_state.specs.Calls.{database_with, history_at}
use Rattle.store_state.specs.Standings.{BeganAs}
use Rattle.snapshot_manager.specs.Starts.{start_of}
use Rattle.snapshot_manager.specs.Databases.{HasDatabase, IsDatabaseOf}
use Rattle.session_sources.specs.Held.{held_state, names_now, unheld}
use Rattle.snapshot_manager.specs.Seats.{store_of}
use Rattle.snapshot_manager.specs.Start.{Start}
use Rattle.snapshot_manager.specs.Told.{entries_in, told}
use Rattle.session_answers.specs.BehindPins.{ComesOver}
use Rattle.session_answers.specs.Replies.{names_before}
use Rattle.session_answers.specs.Said.{ComesOf, IsSaid}
use Rattle.session_answers.proofs.OutcomeLaws.{outcomes_are_said}
use Rattle.session_answers.specs.Inner.Turns.{store_in}

all_kept : (h : History) (n : ℕ) → n ≡ length h → up_to n h ≡ h
all_kept h n e = let zero : length h - n ≡ 0 = omega (arith, e) in ap (λ (k : ℕ). drop k h) zero

-- ---- a reap changes neither names nor cells

abbrev pub reap_if : Bool → History → History
reap_if true h = Reap ∷ h
reap_if false h = h

pub turned_reap : (comes : Bool) (entries : List Entry) → reverse (entries ++ (if comes then Reap ∷ [] else [])) ≡ reap_if comes (reverse entries)
turned_reap true entries = reverse-append entries (Reap ∷ [])
turned_reap false entries = ap reverse (append-nil entries)

same_names : (comes : Bool) (base : Core) (h : History) → names_at base (reap_if comes h) ≡ names_at base h
same_names true base h = refl
same_names false base h = refl

same_cells : (comes : Bool) (db : Database) (h : History) → at db (reap_if comes h) ≡ at db h
same_cells true db h = refl
same_cells false db h = refl

-- ---- a turn, whose store has the database of its names

module _ {D : Type 0} (moment : D → Moment) (session : ℕ) (old : Turn (StoreParts D))
    (has : HasDatabase moment (store_in moment old) (length (store_of old).ledger.entries) (names_now (store_of old).ledger)) where
  abbrev began : Start D
  began = start_of (store_in moment old)

  abbrev past : History
  past = history (store_of old).ledger

  database_now : (db : Database) → BeganAs (moment began.opened.disk).state db → IsDatabaseOf (at db past) (names_now (store_of old).ledger)
  database_now db is =
      subst (λ (h : History). IsDatabaseOf (at db h) (names_now (store_of old).ledger))
      (all_kept past (length (store_of old).ledger.entries) (sym (length-reverse (store_of old).ledger.entries)))
      (has.database db is)

  -- the source tells it
  pub source_tells : (db : Database) → BeganAs (moment began.opened.disk).state db → IsToldBy (names_now (store_of old).ledger) (held_state moment (unheld session old)) (at db past)
  source_tells db is = record {
    database = (database_now db is).database;
    named = (database_now db is).named;
    tells = record { db = db; began = is; is = refl };
  }

  -- events whose entries tell this history, or one with a reap more
  module _ (events : List Event) (comes : Bool) (same : reverse (entries_in events) ≡ reap_if comes past) where
    there : history_at (told began events) (length (entries_in events)) ≡ reap_if comes past
    there = all_kept (reverse (entries_in events)) (length (entries_in events)) (sym (length-reverse (entries_in events))) ∙ same

    pub names_there : names_before began events (length (entries_in events)) ≡ names_now (store_of old).ledger
    names_there = ap (names_at began.base) there ∙ same_names comes began.base past

    database_there : (db : Database) → database_with db (told began events) (length (entries_in events)) ≡ at db past
    database_there db = ap (at db) there ∙ same_cells comes db past

    module _ (style : Style) (text : List ℕ) (tree : Term) (outcome : Outcome)
        (over : ComesOver style (names_now (store_of old).ledger) (held_state moment (unheld session old)) text tree outcome) where
      comes_there : ComesOf moment began events text tree (length (entries_in events)) style outcome
      comes_there = (
        subst (λ (names : Names). HasOutcomeKind style names (check_of tree text names) outcome) (sym names_there) over.kind,
        λ db is. subst (λ (d : Database). IsOutcomeOf d (reply_to style d text tree) outcome) (sym (database_there db)) (over.told (at db past) (source_tells db is)),
      )

      -- WHAT COMES OF A STATEMENT OVER THE SOURCE IS SAID THERE
      pub said_there : IsSaid moment began events text tree (length (entries_in events)) style outcome
      said_there = outcomes_are_said moment style began events text tree (length (entries_in events)) outcome comes_there
