-- The core after a history, and one step of it.
use Rattle.std.specs.Prelude.{ℕ, ◌+◌, Bool, true, not, ◌&&◌, ◌||◌, nat_eq, [], ◌∷◌, ◌++◌, map, length}
use Rattle.std.specs.List.{filter, list_any, list_all}
use Rattle.plan_changes.specs.Changes.{names_after}
use Rattle.plan_changes.specs.Allowed.{names_allow}
use Rattle.version_reaper.specs.PageSets.{holds, pages_below}
use Rattle.event_core.specs.declared.entry.Entry.{Entry}
use Rattle.event_core.specs.declared.entry.Entry.TheVariants.{Pin, Unpin, Commit, Reap}
use Rattle.event_core.specs.declared.state.CorePin.{CorePin}
use Rattle.event_core.specs.declared.state.Core.{Core}
use Rattle.event_core.specs.History.{History, OpenPin, names_at, pages_at, catalogue_at, open_pins, pages_after}
use Rattle.event_core.specs.Pages.{has_page, fresh_of, free_at}
use Rattle.event_core.specs.Allowed.{are_different}

-- what the core keeps of an open pin: its place, and what could be named when it began
abbrev pub pin_at : Core → OpenPin → CorePin
pin_at base pin = record { session = pin.session; place = length pin.before; names = names_at base pin.before; pages = pages_at base pin.before }

-- the core after a history
abbrev pub core_at : Core → History → Core
core_at base h = record {
  names = names_at base h;
  pages = pages_at base h;
  catalogue = catalogue_at base h;
  pins = map (pin_at base) (open_pins h);
  free = free_at base h;
  limit = base.limit;
  entries = length h;
}

-- the same, told by the core before it

abbrev pub pin_of : Core → ℕ → CorePin
pin_of core session = record { session = session; place = core.entries; names = core.names; pages = core.pages }

abbrev pub is_core_live : Core → ℕ → Bool
is_core_live core page = nat_eq page 0 || (holds core.catalogue page || (has_page core.pages page || list_any (λ pin. has_page pin.pages page) core.pins))

-- whether a page is neither free nor live
abbrev pub is_core_awaiting : Core → ℕ → Bool
is_core_awaiting core page = not (holds core.free page) && not (is_core_live core page)

abbrev pub core_after : Core → Entry → Core
core_after core (Pin session) = record core { pins = core.pins ++ pin_of core session ∷ []; entries = core.entries + 1 }
core_after core (Unpin session) = record core { pins = filter (λ pin. not (nat_eq pin.session session)) core.pins; entries = core.entries + 1 }
core_after core (Commit session change used) = record core {
  names = names_after core.names change;
  pages = pages_after core.names change used.version core.pages;
  catalogue = used.catalogue;
  free = filter (λ page. not (holds (fresh_of core.names core.pages core.catalogue change used) page)) core.free;
  entries = core.entries + 1;
}
core_after core Reap = record core { free = filter (λ page. not (is_core_live core page)) (pages_below core.limit); entries = core.entries + 1 }

abbrev pub is_core_pinned : Core → ℕ → Bool
is_core_pinned core session = list_any (λ pin. nat_eq pin.session session) core.pins

abbrev pub core_allows : Core → Entry → Bool
core_allows core (Pin session) = not (is_core_pinned core session)
core_allows core (Unpin session) = is_core_pinned core session
core_allows core (Commit session change used) = is_core_pinned core session
    && (names_allow core.names change && (are_different (fresh_of core.names core.pages core.catalogue change used)
    && list_all (holds core.free) (fresh_of core.names core.pages core.catalogue change used)))
core_allows core Reap = true
