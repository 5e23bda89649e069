-- A worked list of entries, over a base of no arrays, with 16 pages and page 1 as its catalogue.
use Rattle.std.specs.Prelude.{ℕ, pos, true, [], ◌∷◌, codes}
use Rattle.version_reaper.specs.Datum.TheVariants.{Int}
use Rattle.version_reaper.specs.Kind.TheVariants.{Int64}
use Rattle.version_reaper.specs.Schema.{Schema}
use Rattle.plan_changes.specs.Expr.{literal}
use Rattle.plan_changes.specs.Query.{built}
use Rattle.plan_changes.specs.declared.change.Change.{Change}
use Rattle.plan_changes.specs.declared.change.Change.TheVariants.{Create, Store, Insert, Remove, RemoveVersions}
use Rattle.plan_changes.specs.Databases.{Database}
use Rattle.event_core.specs.declared.entry.Entry.TheVariants.{Pin, Unpin, Commit, Reap}
use Rattle.event_core.specs.declared.state.Core.{Core}
use Rattle.event_core.specs.History.{History}

abbrev pub worked_base : Core
worked_base = record {
  names = record { arrays = [] };
  pages = [];
  catalogue = 1 ∷ [];
  pins = [];
  free = 2 ∷ 3 ∷ 4 ∷ 5 ∷ 6 ∷ 7 ∷ 8 ∷ 9 ∷ 10 ∷ 11 ∷ 12 ∷ 13 ∷ 14 ∷ 15 ∷ [];
  limit = 16;
  entries = 0;
}

-- <v:int64>[i=0:1,2,0]
abbrev pub worked_schema : Schema
worked_schema = record {
  attributes = record { name = codes "v"; kind = Int64; nullable = true } ∷ [];
  dimensions = record { name = codes "i"; lo = pos 0; hi = pos 1; chunk = 2; overlap = 0 } ∷ [];
}

-- the same number at each place, stored as A
abbrev pub worked_store : Change
worked_store = Store (codes "A") worked_schema (built worked_schema (literal (Int (pos 7))))

-- session 0 stores A on pages 2 and 3; session 1 pins; session 0 removes A; a reap
abbrev pub worked : History
worked =
    Reap
    ∷ Commit 0 (Remove (codes "A")) (record { version = []; catalogue = 5 ∷ [] })
    ∷ Pin 0
    ∷ Pin 1
    ∷ Unpin 0
    ∷ Commit 0 worked_store (record { version = 2 ∷ 3 ∷ []; catalogue = 4 ∷ [] })
    ∷ Pin 0
    ∷ []

-- both sessions unpin, and a second reap
abbrev pub worked_on : History
worked_on = Reap ∷ Unpin 0 ∷ Unpin 1 ∷ worked

-- a store of A that lays its version and the catalogue on page 1, the catalogue's before
abbrev pub page_used_twice : History
page_used_twice = Commit 0 worked_store (record { version = 2 ∷ 3 ∷ 1 ∷ []; catalogue = 4 ∷ 1 ∷ [] }) ∷ Pin 0 ∷ []

-- a store takes three pages, another change one
abbrev pub worked_cost : Database → History → Change → ℕ
worked_cost db h (Create name schema) = 1
worked_cost db h (Store name schema plan) = 3
worked_cost db h (Insert name schema plan) = 3
worked_cost db h (Remove name) = 1
worked_cost db h (RemoveVersions name below) = 1
