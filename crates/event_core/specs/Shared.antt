-- A second worked list, over a base of no arrays, with 16 pages, whose catalogue is a chain on page 1 and a log on page 2: versions share a page, and
-- some are removed under a pin.
use Rattle.std.specs.Prelude.{ℕ, pos, true, [], ◌∷◌, codes}
use Rattle.version_reaper.specs.Datum.TheVariants.{Int}
use Rattle.version_reaper.specs.Kind.TheVariants.{Int64}
use Rattle.version_reaper.specs.Schema.{Schema}
use Rattle.plan_changes.specs.Expr.{literal}
use Rattle.plan_changes.specs.Query.{built, between}
use Rattle.plan_changes.specs.declared.change.Change.{Change}
use Rattle.plan_changes.specs.declared.change.Change.TheVariants.{Create, Store, Insert, Remove, RemoveVersions}
use Rattle.plan_changes.specs.Databases.{Database}
use Rattle.version_reaper.specs.PageSets.{pages_from}
use Rattle.event_core.specs.declared.entry.Entry.TheVariants.{Pin, Unpin, Commit, Reap}
use Rattle.event_core.specs.declared.state.Core.{Core}
use Rattle.event_core.specs.History.{History}

abbrev pub shared_base : Core
shared_base = record {
  names = record { arrays = [] };
  pages = [];
  catalogue = 1 ∷ 2 ∷ [];
  pins = [];
  free = pages_from 3 13;
  limit = 16;
  entries = 0;
}

-- <v:int64>[i=0:3,2,0]: two chunks
abbrev pub shared_schema : Schema
shared_schema = record {
  attributes = record { name = codes "v"; kind = Int64; nullable = true } ∷ [];
  dimensions = record { name = codes "i"; lo = pos 0; hi = pos 3; chunk = 2; overlap = 0 } ∷ [];
}

-- the same number at each place, stored as A
abbrev pub shared_store : Change
shared_store = Store (codes "A") shared_schema (built shared_schema (literal (Int (pos 7))))

-- another number at one place of the second chunk
abbrev pub shared_insert : Change
shared_insert = Insert (codes "A") shared_schema
    (between (built shared_schema (literal (Int (pos 8)))) (record { lo = record { items = pos 2 ∷ [] }; hi = record { items = pos 2 ∷ [] } }))

-- session 0 stores A: its chunks on pages 3 and 4, its directory on 5, a record on 6. Session 1 pins. Session 0 inserts into the second chunk: the
-- first one stays on page 3, the second comes on 7, the directory on 8, a record on 9. It removes the version 1, which session 1 can name, with a
-- new chain on page 10 and a new log on 11. A reap; session 1 unpins; a second reap
abbrev pub shared : History
shared =
    Reap
    ∷ Unpin 1
    ∷ Reap
    ∷ Unpin 0
    ∷ Commit 0 (RemoveVersions (codes "A") 2) (record { version = []; catalogue = 10 ∷ 11 ∷ [] })
    ∷ Pin 0
    ∷ Unpin 0
    ∷ Commit 0 shared_insert (record { version = 3 ∷ 7 ∷ 8 ∷ []; catalogue = 1 ∷ 2 ∷ 6 ∷ 9 ∷ [] })
    ∷ Pin 0
    ∷ Pin 1
    ∷ Unpin 0
    ∷ Commit 0 shared_store (record { version = 3 ∷ 4 ∷ 5 ∷ []; catalogue = 1 ∷ 2 ∷ 6 ∷ [] })
    ∷ Pin 0
    ∷ []

-- a store takes four pages, an insert into one chunk three; versions removed take two here, other changes one
abbrev pub shared_cost : Database → History → Change → ℕ
shared_cost db h (Create name schema) = 1
shared_cost db h (Store name schema plan) = 4
shared_cost db h (Insert name schema plan) = 3
shared_cost db h (Remove name) = 1
shared_cost db h (RemoveVersions name below) = 2
