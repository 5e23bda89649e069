-- Which entries are allowed after which.
use Rattle.std.specs.Prelude.{◌≡◌, ℕ, Bool, true, false, not, ◌&&◌, ◌||◌, nat_eq, List, [], ◌∷◌}
use Rattle.std.specs.List.{filter, list_all}
use Rattle.plan_changes.specs.Allowed.{names_allow}
use Rattle.version_reaper.specs.PageSets.{holds, pages_below}
use Rattle.event_core.specs.declared.entry.Entry.{Entry}
use Rattle.event_core.specs.declared.entry.Entry.TheVariants.{Pin, Unpin, Commit, Reap}
use Rattle.event_core.specs.declared.state.Core.{Core}
use Rattle.event_core.specs.History.{History, names_at}
use Rattle.event_core.specs.Pages.{free_at, fresh_at, is_live}

-- whether a session has an open pin, told by its own entries alone
abbrev pub is_pinned : ℕ → History → Bool
is_pinned s [] = false
is_pinned s (Pin t ∷ before) = nat_eq t s || is_pinned s before
is_pinned s (Unpin t ∷ before) = not (nat_eq t s) && is_pinned s before
is_pinned s (Commit t change used ∷ before) = is_pinned s before
is_pinned s (Reap ∷ before) = is_pinned s before

-- whether no page stands in a list twice
abbrev pub are_different : List ℕ → Bool
are_different [] = true
are_different (page ∷ pages) = not (holds pages page) && are_different pages

-- whether an entry is allowed after a history
abbrev pub allows : Core → History → Entry → Bool
allows base h (Pin s) = not (is_pinned s h)
allows base h (Unpin s) = is_pinned s h
allows base h (Commit s change used) = is_pinned s h
    && (names_allow (names_at base h) change
    && (are_different (fresh_at base h change used) && list_all (holds (free_at base h)) (fresh_at base h change used)))
allows base h Reap = true

-- whether each entry of a history is allowed after those before it
abbrev pub is_allowed : Core → History → Bool
is_allowed base [] = true
is_allowed base (entry ∷ before) = is_allowed base before && allows base before entry

-- where a history begins: no pins, and as free pages all that are neither of the catalogue nor of a version
pub record IsBase (base : Core) : Type 0 where
  pub pins : base.pins ≡ []
  pub entries : base.entries ≡ 0
  pub free : base.free ≡ filter (λ page. not (is_live base [] page)) (pages_below base.limit)
