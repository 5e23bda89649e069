-- What a lean core keeps, and what a commit that was made ready keeps.
use Rattle.std.specs.Prelude.{◌≡◌, ℕ, Bool, true, ◌&&◌, nat_le, List, Option, None, Some, IsTrue}
use Rattle.std.specs.List.{list_all}
use Rattle.plan_changes.specs.declared.change.Change.{Change}
use Rattle.event_core.specs.declared.entry.Used.{Used}
use Rattle.event_core.specs.declared.state.Core.{Core}
use Rattle.event_core.specs.Pages.{fresh_of}
use Rattle.store_versions.specs.declared.lean.lean.pin.LeanPin.{LeanPin}
use Rattle.store_versions.specs.declared.lean.lean.row.Row.{Row}

-- whether a row tells only of entries before a place
abbrev pub is_gone_by : ℕ → Option ℕ → Bool
is_gone_by place None = true
is_gone_by place (Some gone) = nat_le gone place

abbrev pub is_past : ℕ → Row → Bool
is_past place row = nat_le row.made place && is_gone_by place row.gone

-- rows and pins tell only of entries that there were
pub record IsLean (rows : List Row) (pins : List LeanPin) (entries : ℕ) : Type 0 where
  pub past : IsTrue (list_all (is_past entries) rows)
  pub placed : IsTrue (list_all (λ pin. nat_le pin.place entries) pins)

-- a part of a core that has the same names and catalogue, and for which a commit's fresh pages are the same
pub record IsPart (core : Core) (change : Change) (used : Used) (part : Core) : Type 0 where
  pub names : part.names ≡ core.names
  pub catalogue : part.catalogue ≡ core.catalogue
  pub fresh : fresh_of part.names part.pages part.catalogue change used ≡ fresh_of core.names core.pages core.catalogue change used
  pub entries : part.entries ≡ 0
