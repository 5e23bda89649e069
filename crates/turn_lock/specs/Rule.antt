-- The rule of the lock's table, which each of its steps keeps.
-- Word 0 is the number of entries, word 1 the next ticket and word 2 the ticket served. The one slot has the value while no seat has a turn.
use Rattle.std.specs.Prelude.{◌≡◌, ◌≢◌, ℕ, ◌+◌, ◌%◌, ◌^◌, ◌<◌, ◌≤◌, ◌⊎◌, List, [], ◌∷◌, length, Option, Some}
use mathlib.Core.Option.{some, none}
use mathlib.Core.Option as maybe
use lib.ListN.{get_elem?}
use Rattle.atomic_table.specs.Table.{State}
use Rattle.turn_lock.specs.declared.turns.view.Claim.{Claim}
use Rattle.turn_lock.specs.declared.turns.view.SeatView.{SeatView}
use Rattle.turn_lock.specs.declared.turns.view.Stage.{Stage}
use Rattle.turn_lock.specs.declared.turns.view.Stage.TheVariants.{Idle, Waiting, Holding}
use Rattle.turn_lock.specs.Owners.{AreOwnedBelow, ExtendsByOthers}
use Rattle.turn_lock.specs.Inner.Views.{HasNumber, AllHaveSeen, ticket_count, number_count}

-- f of each, added up
abbrev pub total : {A : Type 0} → (A → ℕ) → List A → ℕ
total f [] = 0
total f (x ∷ xs) = f x + total f xs

module _ {V E : Type 0} where
  -- the number n stands in the view that `holder` names
  abbrev pub Stands : ℕ → (ℕ → ℕ) → List (SeatView V E) → Type 0
  Stands n holder views = (v : SeatView V E) × (get_elem? views (holder n) ≡ some v) × HasNumber n v.claims

  -- each number that stands in a view is below n
  abbrev pub AreBelow : ℕ → List (SeatView V E) → Type 0
  AreBelow n views = (id : ℕ) (v : SeatView V E) → get_elem? views id ≡ some v → (m : ℕ) → HasNumber m v.claims → m < n

  -- A ticket that is out lies from the ticket served up to the next one, and no other seat drew it.
  -- The seat that has its turn has the ticket served, and has seen the whole list
  abbrev pub InStage : ℕ → ℕ → (ℕ → ℕ) → List E → ℕ → SeatView V E → Stage → Type 0
  InStage served next drawer log id v Idle = Unit {0}
  InStage served next drawer log id v Waiting = (served ≤ v.ticket) × (v.ticket < next) × (drawer v.ticket ≡ id)
  InStage served next drawer log id v Holding = (served ≡ v.ticket) × (v.ticket < next) × (drawer v.ticket ≡ id) × AllHaveSeen log v.claims

  -- what holds of the view v of the seat id
  pub record Fits (owner : E → Option ℕ) (first : V) (served next : ℕ) (drawer holder : ℕ → ℕ) (log : List E) (id : ℕ) (v : SeatView V E) : Type 0 where
    -- a seat with a number knows the value that the lock was made with
    pub from : 0 < number_count v → v.first ≡ Some first
    -- no other seat has one of its numbers, and of the one list each number has seen a beginning, with all that it owns
    pub claimed : (i : ℕ) (c : Claim E) → get_elem? v.claims i ≡ some c → (holder c.number ≡ id) × ExtendsByOthers owner c.number c.seen log
    -- a seat with a ticket has a number
    pub numbered : ticket_count v ≤ number_count v
    pub staged : InStage served next drawer log id v v.stage

module _ {V O E : Type 0} (origin : V → O) (entries : V → List E) where
  -- the value is at home, with just the one list, and no seat has its turn
  abbrev pub AtHome : V → List E → List (maybe.Option (Option V)) → List (SeatView V E) → Type 0
  AtHome first log homes views = (x : V) × (homes ≡ some (Some x) ∷ []) × (origin x ≡ origin first) × (entries x ≡ log)
      × ((id : ℕ) (v : SeatView V E) → get_elem? views id ≡ some v → v.stage ≢ Holding)

  -- a seat has the slot
  abbrev pub IsOut : List (maybe.Option (Option V)) → List (SeatView V E) → Type 0
  IsOut homes views = (homes ≡ none ∷ []) × ((id : ℕ) × (v : SeatView V E) × (get_elem? views id ≡ some v) × (v.stage ≡ Holding))

module _ {V O E : Type 0} (origin : V → O) (entries : V → List E) (owner : E → Option ℕ) where
  -- There is one list, of which all seats have seen beginnings, and one row of tickets, of which one is served
  pub record IsOneHistory (first : V) (seats : ℕ) (s : State (Option V) (SeatView V E)) : Type 0 where
    pub log : List E
    pub served : ℕ
    pub next : ℕ
    -- which seat drew a ticket, and which has a number
    pub drawer : ℕ → ℕ
    pub holder : ℕ → ℕ
    -- tickets count modulo 2^64; few seats are there, so that no two tickets that are out look the same
    pub words : s.words ≡ length log ∷ next % 2 ^ 64 ∷ served % 2 ^ 64 ∷ []
    pub few : seats ≤ 17
    pub ordered : served ≤ next
    pub each : (id : ℕ) (v : SeatView V E) → get_elem? s.views id ≡ some v → Fits owner first served next drawer holder log id v
    -- each ticket that is not served yet is with a seat
    pub waiting : next ≡ served + total ticket_count s.views
    -- each number is with one seat
    pub shared_out : total number_count s.views ≡ seats
    pub stands : (n : ℕ) → n < seats → Stands n holder s.views
    pub in_range : AreBelow seats s.views
    -- no entry is owned by a number that no seat has
    pub owned : AreOwnedBelow owner seats log
    pub slot : AtHome origin entries first log s.homes s.views ⊎ IsOut origin entries s.homes s.views
