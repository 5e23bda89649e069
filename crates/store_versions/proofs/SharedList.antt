-- The worked list in which versions share a page: legal, and its pages, all computed.
use Rattle.std.proofs.Common.{true, [], refl, arith}
use Rattle.plan_changes.specs.Stored.{HasItsNames}
use Rattle.plan_changes.specs.Typed.{HasTypedPlan}
use Rattle.event_core.specs.History.{names_at, up_to}
use Rattle.event_core.specs.Allowed.{IsBase}
use Rattle.event_core.specs.Apart.{AllShareOwn, AreApart}
use Rattle.event_core.specs.Legal.{BeginsAt, IsLegal}
use Rattle.event_core.specs.Shared.{shared_base, shared_store, shared_insert, shared, shared_cost}
use Rattle.event_core.proofs.Tests.{both_not}
use Rattle.store_versions.specs.SharedLaws.{SharedIsLegal, SharedPages}

pub base_is : IsBase shared_base
base_is = record { pins = refl; entries = refl; free = refl }

store_typed : HasTypedPlan shared_base.names shared_store
store_typed = (record { typed = (refl, refl); reads = tt }, refl)

store_names : HasItsNames shared_store
store_names = (refl, record { attributes = (refl, tt); dimensions = (refl, tt) })

insert_names : HasItsNames shared_insert
insert_names = refl

insert_typed : HasTypedPlan (names_at shared_base (up_to 5 shared)) shared_insert
insert_typed = (record { typed = ((refl, refl), refl); reads = tt }, (refl, refl))

begins_at : BeginsAt [] shared_base
begins_at = record { base = base_is; database = record { names = record { count = omega arith; rising = tt; each = tt }; rows = tt }; names = refl; pages = λ name version. refl }

-- entry by entry, the oldest first
first_legal : IsLegal shared_cost [] shared_base (up_to 5 shared)
first_legal = (((((begins_at, refl, tt, tt), refl, (refl, store_names, store_typed), (refl, refl)), refl, tt, tt), refl, tt, tt), refl, tt, tt)

second_legal : IsLegal shared_cost [] shared_base (up_to 8 shared)
second_legal = (((first_legal, refl, (refl, insert_names, insert_typed), (refl, refl)), refl, tt, tt), refl, tt, tt)

all_legal : IsLegal shared_cost [] shared_base shared
all_legal = (((((second_legal, refl, (refl, refl, tt), (refl, refl)), refl, tt, tt), refl, tt, tt), refl, tt, tt), refl, tt, tt)

apart_is : AreApart shared_base []
apart_is = record { now = λ page e. refl; pinned = λ page e. refl; first = (refl, refl) }

own_is : AllShareOwn shared_base shared
own_is = (((tt, record { version = refl; catalogue = refl; none = λ e. absurd (both_not true e refl) }), record { version = refl; catalogue = refl; none = λ e. absurd (both_not true e refl) }), record { version = refl; catalogue = refl; none = λ e. refl })

pub shared_is_legal : SharedIsLegal
shared_is_legal = record { base = base_is; legal = all_legal; apart = apart_is; own = own_is }

pub shared_pages : SharedPages
shared_pages = record { free = refl; live = refl }
