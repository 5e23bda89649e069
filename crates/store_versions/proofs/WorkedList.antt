-- The worked list: a base, a legal history over it, and its free pages, all computed.
use Rattle.std.proofs.Common.{◌≡◌, true, false, [], ◌∷◌, length, map, refl, arith}
use Rattle.std.specs.Prelude.{pos}
use Rattle.cell_values.specs.declared.datum.Datum.TheVariants.{Int}
use Rattle.plan_changes.specs.Expr.{literal}
use Rattle.plan_changes.specs.Query.{built}
use Rattle.plan_changes.proofs.DatabaseLaws.{plans_mean_arrays}
use Rattle.plan_changes.specs.Stored.{HasItsNames}
use Rattle.plan_changes.specs.Typed.{HasTypedPlan}
use Rattle.event_core.specs.declared.entry.Entry.TheVariants.{Pin, Unpin, Commit}
use Rattle.event_core.specs.History.{open_pins}
use Rattle.event_core.specs.Pages.{free_at, is_awaiting}
use Rattle.event_core.specs.Allowed.{is_allowed}
use Rattle.event_core.specs.Legal.{BeginsAt, IsLegal, AllStoreArrays}
use Rattle.event_core.specs.Apart.{AllShareOwn, AreApart}
use Rattle.event_core.specs.Worked.{worked_base, worked_schema, worked_store, worked, worked_on, worked_cost, page_used_twice}
use Rattle.event_core.proofs.Tests.{both_not}
use Rattle.event_core.proofs.Worked.{base_is}

store_typed : HasTypedPlan worked_base.names worked_store
store_typed = (record { typed = (refl, refl); reads = tt }, refl)

store_names : HasItsNames worked_store
store_names = (refl, record { attributes = (refl, tt); dimensions = (refl, tt) })

begins_at : BeginsAt [] worked_base
begins_at = record { base = base_is; database = record { names = record { count = omega arith; rising = tt; each = tt }; rows = tt }; names = refl; pages = λ name version. refl }

-- entry by entry, the oldest first
first_legal : IsLegal worked_cost [] worked_base (Pin 1 ∷ Unpin 0 ∷ Commit 0 worked_store (record { version = 2 ∷ 3 ∷ []; catalogue = 4 ∷ [] }) ∷ Pin 0 ∷ [])
first_legal = ((((begins_at, refl, tt, tt), refl, (refl, store_names, store_typed), (refl, refl)), refl, tt, tt), refl, tt, tt)

worked_legal : IsLegal worked_cost [] worked_base worked
worked_legal = (((first_legal, refl, tt, tt), refl, (refl, refl, tt), (refl, refl)), refl, tt, tt)

pub legal_is : IsLegal worked_cost [] worked_base worked_on
legal_is = (((worked_legal, refl, tt, tt), refl, tt, tt), refl, tt, tt)

-- the plan that it stores means an array
pub stores_arrays : AllStoreArrays [] worked_on
stores_arrays = ((tt, plans_mean_arrays (built worked_schema (literal (Int (pos 7)))) refl [] begins_at.database store_typed.0), tt)

-- the removed version's pages wait for the pin of session 1
pub free_is : free_at worked_base worked ≡ 1 ∷ 4 ∷ 6 ∷ 7 ∷ 8 ∷ 9 ∷ 10 ∷ 11 ∷ 12 ∷ 13 ∷ 14 ∷ 15 ∷ []
free_is = refl

pub free_on_is : free_at worked_base worked_on ≡ 1 ∷ 2 ∷ 3 ∷ 4 ∷ 6 ∷ 7 ∷ 8 ∷ 9 ∷ 10 ∷ 11 ∷ 12 ∷ 13 ∷ 14 ∷ 15 ∷ []
free_on_is = refl

-- before the second reap they await it
pub awaiting_is : is_awaiting worked_base (Unpin 0 ∷ Unpin 1 ∷ worked) 2 ≡ true
awaiting_is = refl

-- the open pins, with their places
pub places_are : map (λ pin. length pin.before) (open_pins worked) ≡ 3 ∷ 4 ∷ []
places_are = refl

-- a commit by an unpinned session is not allowed
pub not_allowed : is_allowed worked_base (Unpin 1 ∷ []) ≡ false
not_allowed = refl

-- the catalogue of the base is apart, and each commit shares no pages but its own
pub apart_is : AreApart worked_base []
apart_is = record { now = λ page e. refl; pinned = λ page e. refl; first = (refl, refl) }

pub own_is : AllShareOwn worked_base worked_on
own_is = ((tt, record { version = refl; catalogue = refl; none = λ e. absurd (both_not true e refl) }), record { version = refl; catalogue = refl; none = λ e. refl })

-- a legal history with one page for both
pub twice_legal : IsLegal worked_cost [] worked_base page_used_twice
twice_legal = ((begins_at, refl, tt, tt), refl, (refl, store_names, store_typed), (refl, refl))

pub twice_refused : AllShareOwn worked_base page_used_twice → ⊥
twice_refused all = both_not false refl all.1.version
