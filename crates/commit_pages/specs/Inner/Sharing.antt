-- A worked list of entries at the costs of the file, whose versions share a page: over a base of no arrays with 16 pages, page 1 as
-- the chain of its catalogue and page 2 as its log, which keeps the record of each commit.
use Rattle.std.specs.Prelude.{◌≡◌, [], ◌∷◌, codes, Some}
use Rattle.event_core.specs.Change.TheVariants.{RemoveVersions}
use Rattle.event_core.specs.declared.entry.Entry.TheVariants.{Pin, Unpin, Commit, Reap}
use Rattle.event_core.specs.declared.state.Core.{Core}
use Rattle.event_core.specs.Apart.{AllShareOwn, AreApart}
use Rattle.event_core.specs.History.{History}
use Rattle.event_core.specs.Legal.{IsLegal}
use Rattle.event_core.specs.Pages.{free_at}
use Rattle.commit_pages.specs.Costs.{cost_from}
use Rattle.commit_pages.specs.Inner.Examples.{store, insert_at}

abbrev pub shared_base : Core
shared_base = record {
  names = record { arrays = [] };
  pages = [];
  catalogue = 1 ∷ 2 ∷ [];
  pins = [];
  free = 3 ∷ 4 ∷ 5 ∷ 6 ∷ 7 ∷ 8 ∷ 9 ∷ 10 ∷ 11 ∷ 12 ∷ 13 ∷ 14 ∷ 15 ∷ [];
  limit = 16;
  entries = 0;
}

-- A has a payload in page 3, one in page 4 and its directory in page 5; an insert into its second chunk writes pages 7 and 8, and
-- shares page 3
abbrev pub stored_twice : History
stored_twice =
    Commit 0 (insert_at 0 2) (record { version = 3 ∷ 7 ∷ 8 ∷ []; catalogue = 1 ∷ 2 ∷ 6 ∷ 9 ∷ [] })
    ∷ Pin 0
    ∷ Unpin 0
    ∷ Commit 0 (store 0) (record { version = 3 ∷ 4 ∷ 5 ∷ []; catalogue = 1 ∷ 2 ∷ 6 ∷ [] })
    ∷ Pin 0
    ∷ []

-- under a pin of session 1 version 1 is removed, and a reap frees none of its pages
abbrev pub removed_pinned : History
removed_pinned = Reap ∷ Unpin 0 ∷ Commit 0 (RemoveVersions (codes "A") 2)
    (record { version = []; catalogue = 1 ∷ 2 ∷ 6 ∷ 9 ∷ 10 ∷ [] }) ∷ Pin 0 ∷ Pin 1 ∷ Unpin 0 ∷ stored_twice

-- once session 1 has unpinned a second reap frees those that version 2 does not share
abbrev pub reaped_again : History
reaped_again = Reap ∷ Unpin 1 ∷ removed_pinned

pub record SharingIsLegal : Type 0 where
  pub legal : IsLegal (cost_from (Some 0)) [] shared_base reaped_again
  pub apart : AreApart shared_base []
  pub own : AllShareOwn shared_base reaped_again
  pub pinned : free_at shared_base removed_pinned ≡ 11 ∷ 12 ∷ 13 ∷ 14 ∷ 15 ∷ []
  pub free : free_at shared_base reaped_again ≡ 4 ∷ 5 ∷ 11 ∷ 12 ∷ 13 ∷ 14 ∷ 15 ∷ []
