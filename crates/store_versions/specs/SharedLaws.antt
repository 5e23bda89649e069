-- What is computed of the worked list in which versions share a page.
use Rattle.std.specs.Prelude.{◌≡◌, ℕ, List, [], ◌∷◌, map}
use Rattle.std.specs.List.{filter}
use Rattle.event_core.specs.PageSets.{pages_from}
use Rattle.event_core.specs.History.{up_to}
use Rattle.event_core.specs.Pages.{is_live, free_at}
use Rattle.event_core.specs.Allowed.{IsBase}
use Rattle.event_core.specs.Apart.{AllShareOwn, AreApart}
use Rattle.event_core.specs.Legal.{IsLegal}
use Rattle.event_core.specs.Shared.{shared_base, shared, shared_cost}

-- the free pages after so many entries, and the live ones
abbrev pub free_after : ℕ → List ℕ
free_after place = free_at shared_base (up_to place shared)

abbrev pub live_after : ℕ → List ℕ
live_after place = filter (is_live shared_base (up_to place shared)) (pages_from 0 16)

pub record SharedIsLegal : Type 0 where
  pub base : IsBase shared_base
  pub legal : IsLegal shared_cost [] shared_base shared
  pub apart : AreApart shared_base []
  pub own : AllShareOwn shared_base shared

-- a store, an insert and the removal take their fresh pages. The first reap gives the pages of the catalogue before; those of the removed version
-- alone wait for the unpin, and page 3 stays, since the version after it has it too
pub record SharedPages : Type 0 where
  pub free : map free_after (pages_from 0 14) ≡
      pages_from 3 13 ∷ pages_from 3 13 ∷ pages_from 7 9 ∷ pages_from 7 9 ∷ pages_from 7 9
      ∷ pages_from 7 9 ∷ pages_from 10 6 ∷ pages_from 10 6 ∷ pages_from 10 6
      ∷ pages_from 12 4 ∷ pages_from 12 4
      ∷ (1 ∷ 2 ∷ 6 ∷ 9 ∷ 12 ∷ 13 ∷ 14 ∷ 15 ∷ []) ∷ (1 ∷ 2 ∷ 6 ∷ 9 ∷ 12 ∷ 13 ∷ 14 ∷ 15 ∷ [])
      ∷ (1 ∷ 2 ∷ 4 ∷ 5 ∷ 6 ∷ 9 ∷ 12 ∷ 13 ∷ 14 ∷ 15 ∷ []) ∷ []
  pub live : map live_after (pages_from 0 14) ≡
      pages_from 0 3 ∷ pages_from 0 3 ∷ pages_from 0 7 ∷ pages_from 0 7 ∷ pages_from 0 7 ∷ pages_from 0 7 ∷ pages_from 0 10 ∷ pages_from 0 10 ∷ pages_from 0 10
      ∷ (0 ∷ 3 ∷ 4 ∷ 5 ∷ 7 ∷ 8 ∷ 10 ∷ 11 ∷ []) ∷ (0 ∷ 3 ∷ 4 ∷ 5 ∷ 7 ∷ 8 ∷ 10 ∷ 11 ∷ []) ∷ (0 ∷ 3 ∷ 4 ∷ 5 ∷ 7 ∷ 8 ∷ 10 ∷ 11 ∷ [])
      ∷ (0 ∷ 3 ∷ 7 ∷ 8 ∷ 10 ∷ 11 ∷ []) ∷ (0 ∷ 3 ∷ 7 ∷ 8 ∷ 10 ∷ 11 ∷ []) ∷ []
