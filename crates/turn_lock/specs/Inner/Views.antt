-- What a seat's view says, and how views are cut in two and put together.
use Rattle.std.specs.Prelude.{◌≡◌, ℕ, zero, suc, List, [], ◌∷◌, ◌++◌, map, length, Option, Some, None}
use mathlib.Core.Option.{some}
use lib.ListN.{get_elem?}
use Rattle.turn_lock.specs.declared.turns.view.Claim.{Claim}
use Rattle.turn_lock.specs.declared.turns.view.SeatView.{SeatView}
use Rattle.turn_lock.specs.declared.turns.view.Stage.{Stage}
use Rattle.turn_lock.specs.declared.turns.view.Stage.TheVariants.{Idle, Waiting, Holding}

module _ {E : Type 0} where
  abbrev pub claim : ℕ → List E → Claim E
  claim k xs = record { number = k; seen = xs }

  -- the claims of so many seats from number k on, which have seen nothing
  abbrev pub new_claims : ℕ → ℕ → List (Claim E)
  new_claims k zero = []
  new_claims k (suc n) = claim k [] ∷ new_claims (suc k) n

  abbrev pub first_number : List (Claim E) → ℕ
  first_number [] = 0
  first_number (c ∷ cs) = c.number

  abbrev pub first_seen : List (Claim E) → List E
  first_seen [] = []
  first_seen (c ∷ cs) = c.seen

  abbrev pub first_of : List (Claim E) → List (Claim E)
  first_of [] = []
  first_of (c ∷ cs) = c ∷ []

  abbrev pub later_of : List (Claim E) → List (Claim E)
  later_of [] = []
  later_of (c ∷ cs) = cs

  -- the same numbers, which have now seen xs
  abbrev pub claims_seeing : List E → List (Claim E) → List (Claim E)
  claims_seeing xs cs = map (λ c. claim c.number xs) cs

  -- the number n is among these
  abbrev pub HasNumber : ℕ → List (Claim E) → Type 0
  HasNumber n cs = (i : ℕ) × (c : Claim E) × (get_elem? cs i ≡ some c) × (c.number ≡ n)

  -- each has seen all of it
  abbrev pub AllHaveSeen : List E → List (Claim E) → Type 0
  AllHaveSeen log cs = (i : ℕ) (c : Claim E) → get_elem? cs i ≡ some c → c.seen ≡ log

-- 1 where a ticket was drawn and its turn has not ended
abbrev pub tickets_at : Stage → ℕ
tickets_at Idle = 0
tickets_at Waiting = 1
tickets_at Holding = 1

module _ {V E : Type 0} where
  abbrev pub seat_view : Stage → ℕ → Option V → List (Claim E) → SeatView V E
  seat_view st t o cs = record { stage = st; ticket = t; first = o; claims = cs }

  abbrev pub ticket_count : SeatView V E → ℕ
  ticket_count v = tickets_at v.stage

  abbrev pub number_count : SeatView V E → ℕ
  number_count v = length v.claims

  -- the first seat has every number
  abbrev pub first_view : V → ℕ → SeatView V E
  first_view x n = seat_view Idle 0 (Some x) (new_claims 0 n)

  -- a seat that has no number
  abbrev pub spent_view : SeatView V E
  spent_view = seat_view Idle 0 None []

  -- a new seat takes the first claim of another, which keeps the later ones
  abbrev pub first_share : SeatView V E → SeatView V E
  first_share v = seat_view Idle 0 v.first (first_of v.claims)

  abbrev pub later_share : SeatView V E → SeatView V E
  later_share v = seat_view Idle 0 v.first (later_of v.claims)

  -- a seat takes all claims of another, which has at least one
  abbrev pub both_shares : SeatView V E → SeatView V E → SeatView V E
  both_shares v w = seat_view Idle 0 w.first (w.claims ++ v.claims)
