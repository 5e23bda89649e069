-- Events of a store: its entries and notes in the order in which they came, each commit with the disk's moment at which it was
-- acknowledged, and with the directory of the version that it made.
use Rattle.std.specs.Prelude.{ℕ, List, [], ◌∷◌, Option}
use Rattle.array_rows.specs.Boxes.{by_pairs}
use Rattle.chunk_map.specs.declared.directory.Directory.{Directory}
use Rattle.event_core.specs.declared.entry.Entry.TheVariants.{Pin, Unpin, Commit, Reap}
use Rattle.store_ledger.specs.Ledger.{Event as LedgerEvent, entered, noted, events as ledger_events, owner_of as ledger_owner}
use Rattle.store_state.specs.declared.state.event.Event.{Event}
use Rattle.store_state.specs.declared.state.event.Event.TheVariants.{Entered, Acknowledged, Noted}
use Rattle.store_state.specs.Standings.{Standing}

-- a commit's moment and its directory
pub record Seal : Type 0 where
  pub moment : ℕ
  pub directory : Directory

-- each commit takes the next seal. There is one for each
abbrev pub sealed : List LedgerEvent → List Seal → List Event
sealed [] seals = []
sealed (entered (Pin session) ∷ events) seals = Entered (Pin session) ∷ sealed events seals
sealed (entered (Unpin session) ∷ events) seals = Entered (Unpin session) ∷ sealed events seals
sealed (entered (Commit session change used) ∷ events) [] = Entered (Commit session change used) ∷ sealed events []
sealed (entered (Commit session change used) ∷ events) (seal ∷ seals) =
    Acknowledged (Commit session change used) seal.moment seal.directory ∷ sealed events seals
sealed (entered Reap ∷ events) seals = Entered Reap ∷ sealed events seals
sealed (noted note ∷ events) seals = Noted note ∷ sealed events seals

abbrev pub events : {D : Type 0} → Standing D → List Event
events s = sealed (ledger_events s.ledger) (by_pairs (λ moment directory. record { moment = moment; directory = directory }) s.acked s.made)

-- whose an event is: a reap is nobody's
abbrev pub owner_of : Event → Option ℕ
owner_of (Entered entry) = ledger_owner (entered entry)
owner_of (Acknowledged entry moment directory) = ledger_owner (entered entry)
owner_of (Noted note) = ledger_owner (noted note)
