-- A prepared commit takes as many pages as its change costs.
use Rattle.std.proofs.Common.{◌≡◌, ◌∙◌, ℕ, Bool, true, false, List, length, Option, None, Some, IfSome, refl, ap, sym, subst}
use Rattle.std.specs.Prelude.{nat_lt, if◌then◌else◌}
use Rattle.afl_outside.specs.Disk.{Moment}
use Rattle.array_geom.specs.declared.chunk.Changed.{Changed}
use Rattle.cell_values.specs.declared.schema.Schema.{Schema}
use Rattle.chunk_map.specs.declared.directory.Directory.{Directory}
use Rattle.logical_plan.specs.declared.names.NameEntry.{NameEntry}
use Rattle.logical_plan.specs.declared.names.Names.{Names}
use Rattle.page_chain.specs.declared.slots.layout.sides.Format.{Format}
use Rattle.page_chain.specs.declared.slots.layout.sides.Format.TheVariants.{One, Two}
use Rattle.page_chain.specs.declared.slots.slots.slots.Target.{Target}
use Rattle.page_chain.specs.declared.slots.slots.slots.Target.TheVariants.{Root, Record}
use Rattle.page_chain.specs.Steps.{first_target}
use Rattle.plan_changes.specs.declared.change.Change.{Change}
use Rattle.plan_changes.specs.declared.change.Change.TheVariants.{Create, Store, Insert, Remove, RemoveVersions}
use Rattle.plan_changes.specs.Changes.{entry_named, name_of, newest_of}
use Rattle.plan_changes.specs.Databases.{Database, names_of}
use Rattle.plan_changes.specs.Typed.{FitsInto, IsTypedFor}
use Rattle.version_catalog.specs.declared.rules.catalog.Catalog.{Catalog}
use Rattle.version_catalog.specs.Catalogs.{IsCatalog, names_in}
use Rattle.event_core.specs.Bases.{records_at}
use Rattle.event_core.specs.Cells.{at}
use Rattle.event_core.specs.History.{History, names_at}
use Rattle.file_meaning.specs.declared.meaning.found.Found.{Found}
use Rattle.store_state.specs.Premises.{StandsBy, row_of}
use Rattle.commit_pages.specs.Costs.{cost_from, has_log_room}
use Rattle.commit_pages.specs.Changes.{ComesWith}
use Rattle.commit_pages.specs.Versions.{draft_of}
use Rattle.commit_pages.specs.Laws.{IsOver, RecordsCostTheirPages, BasesCostTheirPages}
use Rattle.store_state.specs.LaidPremises.{IsNewestIn, last_of_row, newest_in}
use Rattle.store_state.specs.CostsLaws.{FoundFilesAreOver}
use Rattle.store_state.specs.RowsLaws.{NewestAreLast, StandInOrder}
use Rattle.store_state.specs.Rows.{AreInOrder, directories_in}
use Rattle.store_ledger.specs.Ledger.{history}
use Rattle.store_versions.specs.Versions.{HaveDirectories, MadeVersion, directory_of}
use Rattle.store_versions.proofs.Made.{named_versions_have_directories}
use Rattle.store_state.specs.Standings.{Standing, BeganAs, base_of, commit_places, current_slots, given_of, records_in, versions_after}
use Rattle.store_state.specs.Cells.{HoldsCells, IsFound, IsImage}
use Rattle.store_state.specs.At.{IsAt}
use Rattle.store_state.specs.Inner.Keeping.{Keeping, IsDirectoryOf}
use Rattle.prepared_commits.specs.Needs.{needs, needs_by, newest_now, next_sequence, or_empty}
use Rattle.prepared_commits.specs.Prepared.{IsAsked, MayBeMade}
use Rattle.prepared_commits.proofs.Newest.{newest_fits, newest_is_last}

-- what the law of costs rests on
pub record Telling : Type 0 where
  pub last : NewestAreLast
  pub over : FoundFilesAreOver
  pub records : RecordsCostTheirPages
  pub bases : BasesCostTheirPages

-- a record is the target just where the log has room for one
abbrev IsRoomFor : Target → Bool → Type 0
IsRoomFor Record room = room ≡ true
IsRoomFor Root room = room ≡ false

room_by : (n : ℕ) (b : Bool) → nat_lt n 64 ≡ b → IsRoomFor (if b then Record else Root) (nat_lt n 64)
room_by n true e = e
room_by n false e = e

room_for : (format : Format) (n : ℕ) → IsRoomFor (first_target format n) (has_log_room (records_in format n))
room_for One n = refl
room_for Two n = room_by n (nat_lt n 64) refl

costs_by : (target : Target) (records : Option ℕ) (db : Database) (h : History) (change : Change) (catalog : Catalog) (changed : Option Changed) (newest : Directory) (birth : ℕ) → Telling
    → IsOver db change catalog changed newest → IsRoomFor target (has_log_room (records_at records h)) → needs_by target catalog newest change (draft_of birth changed) ≡ cost_from records db h change
costs_by Record records db h change catalog changed newest birth tells over room = tells.records records db h change catalog changed newest birth over room
costs_by Root records db h change catalog changed newest birth tells over room = tells.bases records db h change catalog changed newest birth over room

module _ {D : Type 0} (moment : D → Moment) (s : Standing D) (k : Keeping) (x : IsAt moment s k) where
  pub have : HaveDirectories (names_at s.ledger.base (history s.ledger)) (versions_after s (history s.ledger))
  have = named_versions_have_directories (given_of s) s.ledger.base (history s.ledger) x.kept.in_order.ordered x.kept.versions.first

  pub stand : StandInOrder k.catalog (versions_after s (history s.ledger))
  stand = record {
    stored = x.kept.catalog.names;
    have = subst (λ (names : Names). HaveDirectories names (versions_after s (history s.ledger))) (sym x.kept.names) have;
    order = subst (λ (names : Names). AreInOrder names (versions_after s (history s.ledger))) (sym x.kept.names) x.kept.versions.in_order;
  }

  -- the directory of the newest version is the one that is found
  is_in : NewestAreLast → (change : Change) (log : ℕ) (found : Found) → IsFound s.ledger.base (given_of s) (history s.ledger) k.catalog log found → newest_now s change ≡ newest_in found change
  is_in last change log found is =
      let name : List ℕ = name_of change in
      let versions : List MadeVersion = versions_after s (history s.ledger) in
      ap (λ (names : Names). or_empty (directory_of name (newest_of names.arrays name) versions)) (sym x.kept.names)
      ∙ newest_is_last last k.catalog versions name stand
      ∙ ap (λ (catalog : Catalog). last_of_row (row_of name (names_in catalog).arrays (directories_in k.catalog versions))) (sym is.catalog)
      ∙ ap (λ (rows : List (List Directory)). last_of_row (row_of name (names_in found.catalog).arrays rows)) (sym is.directories)

  -- it is one of a change's schema, where that is the array's, if that stands
  pub of_schema : (change : Change) (schema : Schema)
      → ((entry : NameEntry) → entry_named (names_at s.ledger.base (history s.ledger)).arrays (name_of change) ≡ Some entry → entry.schema ≡ schema) → IsDirectoryOf schema (newest_now s change)
  of_schema change schema own =
      let names : Names = names_at s.ledger.base (history s.ledger) in
      newest_fits names (versions_after s (history s.ledger)) (name_of change) (newest_of names.arrays (name_of change)) schema have x.kept.versions.now own

  -- of the chunks that come with a change
  pub of_chunks : (change : Change) (some : Changed) → IsTypedFor (names_at s.ledger.base (history s.ledger)) change → ComesWith change (Some some) → IsDirectoryOf some.schema (newest_now s change)
  of_chunks (Create name schema) some typed comes = absurd cc
  of_chunks (Store name schema plan) some typed comes = of_schema (Store name schema plan) some.schema
      (λ entry named. let fits : FitsInto (Some entry) schema plan = subst (λ (o : Option NameEntry). FitsInto o schema plan) named typed.1.1 in sym fits.0 ∙ sym comes.0)
  of_chunks (Insert name schema plan) some typed comes = of_schema (Insert name schema plan) some.schema
      (λ entry named. let fits : FitsInto (Some entry) schema plan = subst (λ (o : Option NameEntry). FitsInto o schema plan) named typed.1.1 in sym fits.0 ∙ sym comes.0)
  of_chunks (Remove name) some typed comes = absurd cc
  of_chunks (RemoveVersions name below) some typed comes = absurd cc

  -- where the chunks are a part of a version, the directory is found, and one of their schema
  pub part : NewestAreLast → (change : Change) (changed : Option Changed) (log : ℕ) (found : Found) → IsFound s.ledger.base (given_of s) (history s.ledger) k.catalog log found
      → IsTypedFor (names_at s.ledger.base (history s.ledger)) change → ComesWith change changed → IfSome changed (λ some. some.whole ≡ false → IsNewestIn found change some.schema (newest_now s change))
  part last change None log found is typed comes = tt
  part last change (Some some) log found is typed comes = λ whole.
      let d : IsDirectoryOf some.schema (newest_now s change) = of_chunks change some typed comes in
      record { is = is_in last change log found is; rules = d.spelled; cores = d.cores }

  -- a commit needs as many pages as its change costs
  pub needs_are_costs : Telling → IfSome (moment s.disk).state.seen (moment s.disk).may_leave → (change : Change) (changed : Option Changed) (db : Database) → IsAsked moment s change changed
      → BeganAs (moment s.opened.disk).state db → needs s k change changed ≡ cost_from (base_of s).records (at db (history s.ledger)) (history s.ledger) change
  needs_are_costs tells as_read change changed db asked began =
      let h : History = history s.ledger in
      let now : Database = at db h in
      let newest : Directory = newest_now s change in
      let c : HoldsCells moment s k db h (given_of s) (commit_places 0 s.ledger.entries) = x.cells db began in
      let left : (moment s.disk).may_leave c.bytes = subst (λ (o : Option (List ℕ)). IfSome o (moment s.disk).may_leave) c.known.tells as_read in
      let i : IsImage s.ledger.base (given_of s) db h k.slots s.doubt c.found c.bytes = c.images c.bytes left in
      let stands : StandsBy c.bytes (current_slots k.slots) now c.found = record { finds = i.opens; database = c.database; holds = i.holds } in
      let catalog : IsCatalog c.found.catalog = subst IsCatalog (sym c.is_found.catalog) x.kept.catalog in
      let names : names_at s.ledger.base h ≡ names_of now = sym x.kept.names ∙ ap names_in (sym c.is_found.catalog) ∙ i.holds.names in
      let typed : IsTypedFor (names_of now) change = subst (λ (n : Names). IsTypedFor n change) names asked.typed in
      let may : MayBeMade now change changed = asked.told db began in
      let over : IsOver now change c.found.catalog changed newest =
      tells.over c.bytes (current_slots k.slots) now c.found change changed newest stands catalog typed asked.comes asked.valid may.chunks
      (part tells.last change changed k.slots.current.root.log c.found c.is_found asked.typed asked.comes) in
      let mine : IsOver now change k.catalog changed newest = subst (λ (catalog : Catalog). IsOver now change catalog changed newest) c.is_found.catalog over in
      let room : IsRoomFor k.slots.target (has_log_room (records_at (base_of s).records h)) =
      subst (λ (target : Target). IsRoomFor target (has_log_room (records_at (base_of s).records h))) (sym x.kept.slots.target)
      (subst (λ (records : Option ℕ). IsRoomFor (first_target k.slots.current.format (length k.slots.records)) (has_log_room records)) x.kept.slots.records
      (room_for k.slots.current.format (length k.slots.records))) in
      costs_by k.slots.target (base_of s).records now h change k.catalog changed newest (next_sequence s) tells mine room
