-- What a commit is prepared for: the store as it is, until the next entry or note.
use Rattle.std.specs.Prelude.{◌≡◌, ℕ, ◌<◌, ◌≤◌, ◌^◌, List, length, vec_capacity, false, Option, None, IfSome, IsTrue}
use Rattle.std.specs.List.{AllByRecursion}
use Rattle.std.specs.Option.{option_map}
use Rattle.afl_outside.specs.Disk.{Moment}
use Rattle.array_geom.specs.declared.chunk.Changed.{Changed}
use Rattle.page_chain.specs.Pages.{AreDistinct}
use Rattle.plan_changes.specs.declared.change.Change.{Change}
use Rattle.plan_changes.specs.Databases.{Database, fault_of_change}
use Rattle.plan_changes.specs.Kept.{StoresArray}
use Rattle.plan_changes.specs.Stored.{HasItsNames}
use Rattle.plan_changes.specs.Typed.{IsTypedFor}
use Rattle.version_reaper.specs.PageSets.{holds}
use Rattle.version_catalog.specs.Changed.{IsItsBlob}
use Rattle.event_core.specs.declared.entry.Entry.TheVariants.{Commit}
use Rattle.event_core.specs.Allowed.{allows}
use Rattle.event_core.specs.Apart.{SharesOwn}
use Rattle.event_core.specs.Cells.{at}
use Rattle.event_core.specs.History.{names_at}
use Rattle.event_core.specs.Legal.{has_committed}
use Rattle.event_core.specs.Pages.{free_at, fresh_at}
use Rattle.event_core.specs.Ready.{IsReadyOver}
use Rattle.event_core.specs.Replay.{core_at}
use Rattle.store_state.specs.Ledger.{has_room, history, is_noted, is_tried}
use Rattle.store_versions.specs.Rows.{IsReadyFor}
use Rattle.store_state.specs.Costs.{cost_from}
use Rattle.page_file.specs.Commits.{IsBlobSized, IsChainSized}
use Rattle.store_state.specs.Laid.{Laid}
use Rattle.store_state.specs.Changes.{ComesWith, AreValid, IsChangeOf}
use Rattle.store_state.specs.declared.state.parts.StoreParts.{StoreParts}
use Rattle.store_state.specs.At.{keeping, standing}
use Rattle.store_state.specs.Standings.{Standing, BeganAs, WasTriedBy, base_of}
use Rattle.store_state.specs.Inner.Keeping.{Keeping, IsDirectoryOf}
use Rattle.prepared_commits.specs.declared.commits.prepared.Prepared.{Prepared}
use Rattle.prepared_commits.specs.Needs.{IsLaidBy, all_pages, next_sequence}

-- a change that may be made of a database, and the chunks that it writes
pub record MayBeMade (db : Database) (change : Change) (changed : Option Changed) : Type 0 where
  pub stores : StoresArray db change
  pub fault : fault_of_change db change ≡ None
  pub chunks : IfSome changed (IsChangeOf db change)

-- what is asked of a change, and of what comes with it, over a store
pub record IsAsked {D : Type 0} (moment : D → Moment) (s : Standing D) (change : Change) (changed : Option Changed) : Type 0 where
  pub named : HasItsNames change
  pub typed : IsTypedFor (names_at s.ledger.base (history s.ledger)) change
  pub comes : ComesWith change changed
  pub valid : IfSome changed AreValid
  pub told : (db : Database) → BeganAs (moment s.opened.disk).state db → MayBeMade (at db (history s.ledger)) change changed

-- what is laid of it, in pages that are free
pub record IsLaid {D : Type 0} (s : Standing D) (k : Keeping) (changed : Option Changed) (pages : List ℕ) (laid : Laid) (p : Prepared) : Type 0 where
  pub by : IsLaidBy s k p.commit.change changed pages p.base laid
  pub few : length pages < 2 ^ 32
  pub free : AllByRecursion (λ page. IsTrue (holds (free_at s.ledger.base (history s.ledger)) page)) (all_pages pages p.base)
  pub distinct : AreDistinct (all_pages pages p.base)
  pub blobs : p.blobs ≡ laid.blobs
  pub chain : p.chain ≡ laid.chain
  pub catalog : p.catalog ≡ laid.catalog
  pub used : p.commit.used ≡ laid.used
  pub sized : AllByRecursion IsBlobSized laid.blobs
  pub chained : IsChainSized laid.chain
  pub blob : IsItsBlob laid.at
  pub rules : IfSome changed (λ some. IfSome laid.directory (IsDirectoryOf some.schema))
  pub directory : option_map (λ ready. ready.directory) p.version ≡ laid.directory

-- the entry may come next, and all room for it is there
pub record MayCome {D : Type 0} (moment : D → Moment) (s : Standing D) (k : Keeping) (p : Prepared) : Type 0 where
  pub over : IsReadyOver p.commit (core_at s.ledger.base (history s.ledger))
  pub allowed : IsTrue (allows s.ledger.base (history s.ledger) (Commit p.session p.commit.change p.commit.used))
  pub own : SharesOwn s.ledger.base (history s.ledger) p.commit.change p.commit.used
  pub first : has_committed p.session (history s.ledger) ≡ false
  pub noted : IsTrue (is_noted is_tried s.ledger p.session)
  -- it is this change that the session tried, and no commit came since
  pub tried : WasTriedBy p.session s.ledger.notes (history s.ledger) p.commit.change
  pub room : IsTrue (has_room s.ledger 1)
  pub version : IsReadyFor (names_at s.ledger.base (history s.ledger)) p.commit.change (length k.rows) p.version
  pub sequence : next_sequence s < 2 ^ 64
  -- a log page has room for so many
  pub records : length k.slots.records ≤ 64
  -- the number of each page has four bytes
  pub limit : s.ledger.base.limit ≤ 2 ^ 32
  pub cost : (db : Database) → BeganAs (moment s.opened.disk).state db
      → length (fresh_at s.ledger.base (history s.ledger) p.commit.change p.commit.used)
      ≡ cost_from (base_of s).records (at db (history s.ledger)) (history s.ledger) p.commit.change

-- WHAT A COMMIT IS PREPARED FOR, of its change with the chunks that were handed in
pub record IsPreparedFor {D : Type 0} (moment : D → Moment) (parts : StoreParts D) (changed : Option Changed) (p : Prepared) : Type 0 where
  pub asked : IsAsked moment (standing moment parts) p.commit.change changed
  pub pages : List ℕ
  pub laid : Laid
  pub is_laid : IsLaid (standing moment parts) (keeping parts) changed pages laid p
  pub may_come : MayCome moment (standing moment parts) (keeping parts) p
  -- room for the moment at which it is acknowledged, and for the version that it makes
  pub acked : length parts.acked.items < vec_capacity parts.acked
  pub made : length parts.made.items < vec_capacity parts.made
