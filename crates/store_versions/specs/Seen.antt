-- What each place sees in a table of versions, and that it is what could be named there.
use Rattle.std.specs.Prelude.{◌≡◌, ℕ, Bool, true, ◌&&◌, nat_le, List, length, map, Option, None, Some, IsTrue}
use Rattle.std.specs.List.{filter, list_all, AllByRecursion}
use Rattle.event_core.specs.declared.state.Core.{Core}
use Rattle.event_core.specs.History.{History, open_pins}
use Rattle.store_versions.specs.declared.row.VersionRow.{VersionRow}
use Rattle.store_versions.specs.Rows.{is_seen}
use Rattle.store_versions.specs.Versions.{MadeVersion, Directories, versions_at}

abbrev pub version_of : VersionRow → MadeVersion
version_of row = record { name = row.name; version = row.version; directory = row.directory }

-- what a place sees
abbrev pub seen : ℕ → List VersionRow → List MadeVersion
seen place rows = map version_of (filter (is_seen place) rows)

-- whether a row tells only of entries before a place
abbrev pub is_gone_by : ℕ → Option ℕ → Bool
is_gone_by place None = true
is_gone_by place (Some gone) = nat_le gone place

abbrev pub is_past : ℕ → VersionRow → Bool
is_past place row = nat_le row.made place && is_gone_by place row.gone

-- the present and each open pin see just the versions that can be named there, each with the directory that it was made with
pub record AreSeen (given : Directories) (rows : List VersionRow) (base : Core) (h : History) : Type 0 where
  pub now : seen (length h) rows ≡ versions_at base given h
  pub pinned : AllByRecursion (λ pin. seen (length pin.before) rows ≡ versions_at base given pin.before) (open_pins h)
  pub past : IsTrue (list_all (is_past (length h)) rows)
