-- What each step on a word of the lock's table tells the seat that makes it.
use Rattle.std.specs.Prelude.{◌≡◌, ◌≢◌, ℕ, ◌%◌, ◌^◌, List, ◌∷◌, Option, Some}
use mathlib.Core.Option.{some}
use lib.ListN.{get_elem?}
use Rattle.atomic_table.specs.Table.{Me, Step, rest}
use Rattle.turn_lock.specs.declared.turns.view.Claim.{Claim}
use Rattle.turn_lock.specs.declared.turns.view.SeatView.{SeatView}
use Rattle.turn_lock.specs.declared.turns.view.Stage.TheVariants.{Idle, Waiting, Holding}
use Rattle.turn_lock.specs.Owners.{ExtendsByOthers}
use Rattle.turn_lock.specs.Inner.Views.{claims_seeing, spent_view}

-- m and m' are the seat before and after, and r is the number that was found
module _ {V E : Type 0} where
  -- the seat has a ticket
  abbrev pub Draws : Step (Option V) → Me (Option V) (SeatView V E) → ℕ → Me (Option V) (SeatView V E) → Type 0
  Draws st m r m' = (m'.1 ≡ m.1) × (m'.0.stage ≡ Waiting) × (m'.0.first ≡ m.0.first) × (m'.0.claims ≡ m.0.claims) × (r ≡ m'.0.ticket % 2 ^ 64)

  -- the seat has now seen xs
  abbrev pub Counts : List E → Step (Option V) → Me (Option V) (SeatView V E) → ℕ → Me (Option V) (SeatView V E) → Type 0
  Counts xs st m r m' = (m'.1 ≡ m.1) × (m'.0.stage ≡ Holding) × (m'.0.first ≡ m.0.first) × (m'.0.claims ≡ claims_seeing xs m.0.claims)

  -- the ticket is spent, and the slot is home
  abbrev pub Serves : Step (Option V) → Me (Option V) (SeatView V E) → ℕ → Me (Option V) (SeatView V E) → Type 0
  Serves st m r m' = (m'.1 ≡ rest m.1) × (m'.0.stage ≡ Idle) × (m'.0.first ≡ m.0.first) × (m'.0.claims ≡ m.0.claims)

  -- a new seat has no number
  abbrev pub Arrives : Step (Option V) → Me (Option V) (SeatView V E) → ℕ → Me (Option V) (SeatView V E) → Type 0
  Arrives st m r m' = m'.0 ≡ spent_view

module _ {V O E : Type 0} (origin : V → O) (entries : V → List E) (owner : E → Option ℕ) where
  -- the turn has come: the value is in the slot that the seat now has, and the seat has seen all of it
  abbrev pub Begins : Me (Option V) (SeatView V E) → Me (Option V) (SeatView V E) → Type 0
  Begins m m' = (x : V) × (m'.1 ≡ (0, Some x) ∷ m.1) × (m'.0.stage ≡ Holding) × (m'.0.claims ≡ claims_seeing (entries x) m.0.claims)
      × ((f : V) → m.0.first ≡ Some f → origin x ≡ origin f)
      × ((i : ℕ) (c : Claim E) → get_elem? m.0.claims i ≡ some c → ExtendsByOthers owner c.number c.seen (entries x))

  -- the turn begins where the ticket served is the seat's own, and else nothing changes
  abbrev pub Looks : Step (Option V) → Me (Option V) (SeatView V E) → ℕ → Me (Option V) (SeatView V E) → Type 0
  Looks st m r m' = (m'.0.first ≡ m.0.first) × (r ≡ m.0.ticket % 2 ^ 64 → Begins m m') × (r ≢ m.0.ticket % 2 ^ 64 → m' ≡ m)
