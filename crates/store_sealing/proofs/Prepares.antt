-- What a commit is prepared for.
use Rattle.std.proofs.Common.{◌≡◌, ◌∙◌, ◌+◌, ◌≤◌, ◌<◌, ◌^◌, ℕ, true, false, Bool, List, [], ◌∷◌, length, Option, None, Some, IfSome, IsTrue, refl, sym, ap, subst, arith}
use Rattle.std.specs.List.{AllByRecursion}
use Rattle.std.specs.Option.{is_some}
use Rattle.afl_outside.specs.Disk.{Moment}
use Rattle.array_geom.specs.declared.chunk.Changed.{Changed}
use Rattle.array_geom.specs.Geometry.{has_core}
use Rattle.chunk_map.specs.declared.directory.Directory.{Directory}
use Rattle.chunk_map.specs.Spelling.{IsDirectory}
use Rattle.logical_plan.specs.declared.names.Names.{Names}
use Rattle.page_chain.specs.Pages.{AreDistinct}
use Rattle.page_chain.specs.declared.slots.slots.slots.Target.{Target}
use Rattle.page_chain.specs.declared.slots.slots.slots.Target.TheVariants.{Root, Record}
use Rattle.plan_changes.specs.declared.change.Change.{Change}
use Rattle.plan_changes.specs.declared.change.Change.TheVariants.{Create, Store, Insert, Remove, RemoveVersions}
use Rattle.plan_changes.specs.Changes.{name_of, newest_of}
use Rattle.plan_changes.specs.Databases.{Database}
use Rattle.version_catalog.specs.declared.rules.catalog.Catalog.{Catalog}
use Rattle.version_catalog.specs.Catalogs.{names_in}
use Rattle.version_reaper.specs.PageSets.{holds}
use Rattle.event_core.specs.declared.entry.Used.{Used}
use Rattle.event_core.specs.declared.entry.Entry.TheVariants.{Commit}
use Rattle.event_core.specs.declared.state.Core.{Core}
use Rattle.event_core.specs.Allowed.{allows, is_pinned}
use Rattle.event_core.specs.Apart.{SharesOwn, makes_version}
use Rattle.event_core.specs.Cells.{at}
use Rattle.event_core.specs.History.{History, catalogue_at, names_at, pages_at}
use Rattle.event_core.specs.Legal.{has_committed}
use Rattle.event_core.specs.Pages.{free_at, fresh_at}
use Rattle.event_core.specs.Ready.{IsReadyOver, ReadyFor}
use Rattle.event_core.specs.Replay.{core_at}
use Rattle.store_versions.proofs.Legal.{ordered_is_allowed}
use Rattle.commit_pages.specs.Costs.{cost_from}
use Rattle.prepared_commits.specs.Laid.{Laid}
use Rattle.prepared_commits.specs.Written.{Written}
use Rattle.prepared_commits.specs.Changes.{AreValid, ComesWith}
use Rattle.prepared_commits.specs.Commits.{record_laid, base_laid}
use Rattle.prepared_commits.specs.Versions.{CanBeListed, IsWritten, directory_of as directory_by, draft, draft_of, settled, version_in}
use Rattle.prepared_commits.proofs.Cores.{have_cores}
use Rattle.store_ledger.specs.Ledger.{LedgerState, has_room, history, is_noted, is_tried}
use Rattle.store_versions.specs.Rows.{IsReadyFor}
use Rattle.prepared_commits.specs.At.{IsAt}
use Rattle.prepared_commits.specs.Standings.{Standing, BeganAs, WasTriedBy, base_of, given_of, versions_after}
use Rattle.prepared_commits.specs.Keeping.{Keeping, IsDirectoryOf}
use Rattle.prepared_commits.specs.declared.commits.prepared.NewBase.{NewBase}
use Rattle.prepared_commits.specs.declared.commits.prepared.Prepared.{Prepared}
use Rattle.prepared_commits.specs.Needs.{IsLaidBy, all_pages, needs, needs_by, newest_now, next_sequence, written_now}
use Rattle.prepared_commits.specs.Prepared.{IsAsked, IsLaid, MayCome}
use Rattle.prepared_commits.proofs.CostLaws.{of_chunks}
use Rattle.prepared_commits.proofs.Newest.{newest_shares}
use Rattle.prepared_commits.specs.Layouts.{IsLayout, IsSized, base_by, laid_by}
use Rattle.prepared_commits.specs.Parts.{IsPreparedAs, free_pages}
use Rattle.store_sealing.specs.Left.{reaped_if}
use Rattle.store_sealing.proofs.Parts.{newest_reaped, next_reaped}
use Rattle.store_sealing.proofs.Reaped.{asked_still, at_reaped, history_of, ledger_of, reaped_history, room_left, same_committed, same_noted, same_pin, still_tried}
use Rattle.store_sealing.proofs.Uses.{IsBy, IsOpen, IsUse, use_by}

-- ---- what is laid

abbrev made_in : Laid → Option Directory
made_in laid = laid.directory

directory_of_laid : (target : Target) (catalog : Catalog) (catalogue : List ℕ) (newest : Directory) (change : Change) (written : Written) (free : List ℕ)
    → (pages : List ℕ) × ((laid_by target catalog catalogue newest change (Some written) free).directory ≡ Some (directory_by (settled pages written) newest))
unfolding record_laid base_laid version_in
directory_of_laid Record catalog catalogue newest change written free = (_, refl)
directory_of_laid Root catalog catalogue newest change written free = (_, refl)

rules_hold : (target : Target) (catalog : Catalog) (catalogue : List ℕ) (newest : Directory) (change : Change) (some : Changed) (birth : ℕ) (free : List ℕ) (laid : Laid)
    → laid ≡ laid_by target catalog catalogue newest change (Some (draft birth some)) free → IsSized newest (Some (draft birth some)) laid → AreValid some → CanBeListed (length some.schema.dimensions) (draft birth some)
    → IsDirectoryOf some.schema newest → IfSome laid.directory (IsDirectoryOf some.schema)
rules_hold target catalog catalogue newest change some birth free laid is sized valid listed of =
    let d = directory_of_laid target catalog catalogue newest change (draft birth some) free in
    let same : laid.directory ≡ Some (directory_by (settled d.0 (draft birth some)) newest) = ap made_in is ∙ d.1 in
    let spelled = subst (λ (o : Option Directory). IfSome o (IsDirectory (length some.schema.dimensions))) same (sized.rules (length some.schema.dimensions) of.spelled listed) in
    let cores = have_cores some newest birth d.0 valid (λ part. (of.spelled.rising, of.cores)) in
    subst (λ (o : Option Directory). IfSome o (IsDirectoryOf some.schema)) (sym same) (record { spelled = spelled; cores = cores })

laid_as : {D : Type 0} (s : Standing D) (k : Keeping) (change : Change) (changed : Option Changed) (pages : List ℕ) (base : Option NewBase) (laid : Laid)
    → IsBy k.slots.target (next_sequence s) k.catalog (catalogue_at s.ledger.base (history s.ledger)) (newest_now s change) change (written_now s changed) pages base laid → IsLaidBy s k change changed pages base laid
laid_as s k change changed pages None laid is = is
laid_as s k change changed pages (Some base) laid is = is

pub comes_with : (change : Change) (changed : Option Changed) (birth : ℕ) → ComesWith change changed → is_some (draft_of birth changed) ≡ makes_version change
comes_with (Create name schema) None birth comes = refl
comes_with (Create name schema) (Some some) birth comes = absurd cc
comes_with (Store name schema plan) None birth comes = absurd comes
comes_with (Store name schema plan) (Some some) birth comes = refl
comes_with (Insert name schema plan) None birth comes = absurd comes
comes_with (Insert name schema plan) (Some some) birth comes = refl
comes_with (Remove name) None birth comes = refl
comes_with (Remove name) (Some some) birth comes = absurd cc
comes_with (RemoveVersions name below) None birth comes = refl
comes_with (RemoveVersions name below) (Some some) birth comes = absurd cc

-- ---- the prepared commit

-- a law: commits need what they cost
abbrev pub NeedsAreCosts : {D : Type 0} → (D → Moment) → Standing D → Keeping → Type 0
NeedsAreCosts moment s k = (change : Change) (changed : Option Changed) (db : Database) → IsAsked moment s change changed → BeganAs (moment s.opened.disk).state db
    → needs s k change changed ≡ cost_from (base_of s).records (at db (history s.ledger)) (history s.ledger) change

module _ {D : Type 0} (moment : D → Moment) (s : Standing D) (k : Keeping) (x : IsAt moment s k) (change : Change) (changed : Option Changed) (asked : IsAsked moment s change changed) (session : ℕ) (p : Prepared) where
  abbrev own_free : List ℕ
  own_free = free_pages s.ledger

  is_open : IfSome (written_now s changed) IsWritten → IsOpen s.ledger.base (history s.ledger) (newest_now s change) change (written_now s changed)
  is_open written =
      let names : Names = names_at s.ledger.base (history s.ledger) in
      let allowed = ordered_is_allowed s.ledger.base (history s.ledger) x.kept.in_order.ordered in
      record {
        begins = allowed.0;
        allowed = allowed.1;
        shared = newest_shares names (pages_at s.ledger.base (history s.ledger)) (versions_after s (history s.ledger)) (name_of change) x.kept.versions.pages;
        ready = written;
        comes = comes_with change changed (next_sequence s) asked.comes;
      }

  rules : (changed' : Option Changed) (laid : Laid) → ComesWith change changed' → IfSome changed' AreValid
      → laid ≡ laid_by k.slots.target k.catalog (catalogue_at s.ledger.base (history s.ledger)) (newest_now s change) change (written_now s changed') own_free → IsSized (newest_now s change) (written_now s changed') laid
      → IfSome changed' (λ some. CanBeListed (length some.schema.dimensions) (draft (next_sequence s) some)) → IfSome changed' (λ some. IfSome laid.directory (IsDirectoryOf some.schema))
  rules None laid comes valid is sized listed = tt
  rules (Some some) laid comes valid is sized listed =
      rules_hold k.slots.target k.catalog (catalogue_at s.ledger.base (history s.ledger)) (newest_now s change) change some (next_sequence s) own_free laid is sized valid listed
      (of_chunks moment s k x change some asked.typed comes)

  pub prepared_laid : (layout_is : IsPreparedAs k.slots.target (next_sequence s) k.catalog (newest_now s change) (length k.rows) change (written_now s changed) session s.ledger p)
      → IfSome (written_now s changed) IsWritten → IfSome changed (λ some. CanBeListed (length some.schema.dimensions) (draft (next_sequence s) some))
      → (uses : IsUse s.ledger.base (history s.ledger) k.slots.target (next_sequence s) k.catalog (newest_now s change) change (written_now s changed) layout_is.layout.laid layout_is.layout.base)
      → IsLaid s k changed uses.pages layout_is.layout.laid p
  prepared_laid made written listed uses =
      let same : p.commit.change ≡ change = ap (λ (c : ReadyFor). c.change) made.ready.commit in
      let base : made.layout.base ≡ p.base = sym made.ready.base in
      let few = made.laid.few in
      let enough = uses.enough in
      record {
        by = subst (λ (c : Change). IsLaidBy s k c changed uses.pages p.base made.layout.laid) (sym same)
            (subst (λ (b : Option NewBase). IsLaidBy s k change changed uses.pages b made.layout.laid) base (laid_as s k change changed uses.pages made.layout.base made.layout.laid uses.by));
        few = omega (arith, few, enough);
        free = subst (λ (b : Option NewBase). AllByRecursion (λ page. IsTrue (holds (free_at s.ledger.base (history s.ledger)) page)) (all_pages uses.pages b)) base uses.first.free;
        distinct = subst (λ (b : Option NewBase). AreDistinct (all_pages uses.pages b)) base uses.first.distinct;
        blobs = made.ready.blobs;
        chain = made.ready.chain;
        catalog = made.ready.next;
        used = ap (λ (c : ReadyFor). c.used) made.ready.commit;
        sized = made.laid.sized.blobs;
        chained = made.laid.sized.chain;
        blob = made.laid.sized.at;
        rules = rules changed made.layout.laid asked.comes asked.valid made.laid.laid made.laid.sized listed;
        directory = made.ready.directory;
      }

  pub may_come : NeedsAreCosts moment s k → (made : IsPreparedAs k.slots.target (next_sequence s) k.catalog (newest_now s change) (length k.rows) change (written_now s changed) session s.ledger p)
      → IsTrue (is_pinned session (history s.ledger)) → has_committed session (history s.ledger) ≡ false → IsTrue (is_noted is_tried s.ledger session) → WasTriedBy session s.ledger.notes (history s.ledger) change → IsTrue (has_room s.ledger 1) → next_sequence s < 2 ^ 64 → length k.slots.records ≤ 64 → s.ledger.base.limit ≤ 2 ^ 32
      → IsUse s.ledger.base (history s.ledger) k.slots.target (next_sequence s) k.catalog (newest_now s change) change (written_now s changed) made.layout.laid made.layout.base
      → MayCome moment s k p
  may_come costs made pinned first noted tried room small few below uses =
      let base : Core = s.ledger.base in
      let h : History = history s.ledger in
      let laid : Laid = made.layout.laid in
      let own : ReadyFor = record { core = core_at base h; change = change; used = laid.used } in
      let commit : own ≡ p.commit = sym made.ready.commit in
      let by : session ≡ p.session = sym made.ready.of in
      record {
        over = subst (λ (c : ReadyFor). IsReadyOver c (core_at base h)) commit (record { names = refl; pages = refl; catalogue = refl });
        allowed = subst (λ (n : ℕ). IsTrue (allows base h (Commit n p.commit.change p.commit.used))) by
            (subst (λ (c : ReadyFor). IsTrue (allows base h (Commit session c.change c.used))) commit (uses.may.allowed session pinned asked.typed.0));
        own = subst (λ (c : ReadyFor). SharesOwn base h c.change c.used) commit uses.may.own;
        first = subst (λ (n : ℕ). has_committed n h ≡ false) by first;
        noted = subst (λ (n : ℕ). IsTrue (is_noted is_tried s.ledger n)) by noted;
        tried = subst (λ (n : ℕ). WasTriedBy n s.ledger.notes h p.commit.change) by (subst (λ (c : ReadyFor). WasTriedBy session s.ledger.notes h c.change) commit tried);
        room = room;
        version = subst (λ (c : ReadyFor). IsReadyFor (names_at base h) c.change (length k.rows) p.version) commit made.ready.version;
        sequence = small;
        records = few;
        limit = below;
        cost = λ db began. subst (λ (c : ReadyFor). length (fresh_at base h c.change c.used) ≡ cost_from (base_of s).records (at db h) h c.change) commit
            (uses.may.many ∙ uses.many ∙ costs change changed db asked began);
      }

  -- the use of what is laid
  pub use_of : (made : IsPreparedAs k.slots.target (next_sequence s) k.catalog (newest_now s change) (length k.rows) change (written_now s changed) session s.ledger p)
      → IfSome (written_now s changed) IsWritten → needs s k change changed ≤ length (free_pages s.ledger)
      → IsUse s.ledger.base (history s.ledger) k.slots.target (next_sequence s) k.catalog (newest_now s change) change (written_now s changed) made.layout.laid made.layout.base
  use_of made written fits =
      let base : Core = s.ledger.base in
      let h : History = history s.ledger in
      let newest : Directory = newest_now s change in
      let uses = use_by base h k.slots.target (next_sequence s) k.catalog newest change (written_now s changed) (is_open written) fits in
      subst (λ (b : Option NewBase). IsUse base h k.slots.target (next_sequence s) k.catalog newest change (written_now s changed) made.layout.laid b) (sym made.laid.base)
      (subst (λ (l : Laid). IsUse base h k.slots.target (next_sequence s) k.catalog newest change (written_now s changed) l (base_by k.slots.target (next_sequence s) k.catalog newest change (written_now s changed) (free_at base h)))
      (sym made.laid.laid) uses)

-- ---- all of it

-- what a commit is prepared for, over a store as contracts see it
pub record IsFor {D : Type 0} (moment : D → Moment) (s : Standing D) (k : Keeping) (changed : Option Changed) (p : Prepared) : Type 0 where
  pub asked : IsAsked moment s p.commit.change changed
  pub pages : List ℕ
  pub laid : Laid
  pub is_laid : IsLaid s k changed pages laid p
  pub may_come : MayCome moment s k p

-- what is known before the reap
pub record IsBefore {D : Type 0} (moment : D → Moment) (s : Standing D) (k : Keeping) (change : Change) (changed : Option Changed) (session sequence : ℕ) : Type 0 where
  pub at : IsAt moment s k
  pub asked : IsAsked moment s change changed
  pub next : sequence ≡ next_sequence s
  pub small : sequence < 2 ^ 64
  pub pinned : IsTrue (is_pinned session (history s.ledger))
  pub first : has_committed session (history s.ledger) ≡ false
  pub noted : IsTrue (is_noted is_tried s.ledger session)
  pub tried : WasTriedBy session s.ledger.notes (history s.ledger) change
  pub room : IsTrue (has_room s.ledger 2)
  pub written : IfSome (draft_of sequence changed) IsWritten
  pub listed : IfSome changed (λ some. CanBeListed (length some.schema.dimensions) (draft sequence some))
  pub records : length k.slots.records ≤ 64
  pub limit : s.ledger.base.limit ≤ 2 ^ 32

base_reaped : {D : Type 0} (comes : Bool) (s : Standing D) → s.ledger.base ≡ (reaped_if comes s).ledger.base
base_reaped true s = refl
base_reaped false s = refl

prepared_still : {D : Type 0} (moment : D → Moment) (s : Standing D) (k : Keeping) (change : Change) (changed : Option Changed) (session sequence : ℕ) (p : Prepared) (comes : Bool)
    → IsBefore moment s k change changed session sequence → ((t : Standing D) → IsAt moment t k → NeedsAreCosts moment t k)
    → IsPreparedAs k.slots.target sequence k.catalog (newest_now s change) (length k.rows) change (draft_of sequence changed) session (reaped_if comes s).ledger p
    → needs_by k.slots.target k.catalog (newest_now s change) change (draft_of sequence changed) ≤ length (free_pages (reaped_if comes s).ledger) → IsFor moment (reaped_if comes s) k changed p
prepared_still moment s k change changed session sequence p comes is costs made fits =
    let t = reaped_if comes s in
    let x : IsAt moment t k = at_reaped moment s k comes is.at in
    let asked : IsAsked moment t change changed = asked_still moment s k comes change changed is.at is.asked in
    let history_is : history t.ledger ≡ reaped_history comes (history s.ledger) = ap history (ledger_of comes s) ∙ history_of comes s.ledger in
    let pinned : is_pinned session (history t.ledger) ≡ true = ap (is_pinned session) history_is ∙ same_pin comes session (history s.ledger) ∙ is.pinned in
    let first : has_committed session (history t.ledger) ≡ false = ap (has_committed session) history_is ∙ same_committed comes session (history s.ledger) ∙ is.first in
    let noted : is_noted is_tried t.ledger session ≡ true = ap (λ (l : LedgerState). is_noted is_tried l session) (ledger_of comes s) ∙ same_noted comes s.ledger session ∙ is.noted in
    let room : IsTrue (has_room t.ledger 1) = subst (λ (l : LedgerState). IsTrue (has_room l 1)) (sym (ledger_of comes s)) (room_left comes s.ledger is.room) in
    let newest : newest_now s change ≡ newest_now t change = sym (newest_reaped comes s change) in
    let next : sequence ≡ next_sequence t = is.next ∙ sym (next_reaped comes s) in
    let own : IsPreparedAs k.slots.target (next_sequence t) k.catalog (newest_now t change) (length k.rows) change (written_now t changed) session t.ledger p =
    subst (λ (n : ℕ). IsPreparedAs k.slots.target n k.catalog (newest_now t change) (length k.rows) change (draft_of n changed) session t.ledger p) next
    (subst (λ (d : Directory). IsPreparedAs k.slots.target sequence k.catalog d (length k.rows) change (draft_of sequence changed) session t.ledger p) newest made) in
    let written : IfSome (written_now t changed) IsWritten = subst (λ (n : ℕ). IfSome (draft_of n changed) IsWritten) next is.written in
    let listed : IfSome changed (λ some. CanBeListed (length some.schema.dimensions) (draft (next_sequence t) some)) =
    subst (λ (n : ℕ). IfSome changed (λ some. CanBeListed (length some.schema.dimensions) (draft n some))) next is.listed in
    let enough : needs t k change changed ≤ length (free_pages t.ledger) =
    subst (λ (n : ℕ). needs_by k.slots.target k.catalog (newest_now t change) change (draft_of n changed) ≤ length (free_pages t.ledger)) next
    (subst (λ (d : Directory). needs_by k.slots.target k.catalog d change (draft_of sequence changed) ≤ length (free_pages t.ledger)) newest fits) in
    let below : t.ledger.base.limit ≤ 2 ^ 32 = subst (λ (b : Core). b.limit ≤ 2 ^ 32) (base_reaped comes s) is.limit in
    let small : next_sequence t < 2 ^ 64 = subst (λ (n : ℕ). n < 2 ^ 64) next is.small in
    let uses = use_of moment t k x change changed asked session p own written enough in
    let same : change ≡ p.commit.change = sym (ap (λ (c : ReadyFor). c.change) own.ready.commit) in
    record {
      asked = subst (λ (c : Change). IsAsked moment t c changed) same asked;
      pages = uses.pages;
      laid = own.layout.laid;
      is_laid = prepared_laid moment t k x change changed asked session p own written listed uses;
      may_come = may_come moment t k x change changed asked session p (costs t x) own pinned first noted (still_tried comes s session change is.tried) room small is.records below uses;
    }

pub prepared_new : {D : Type 0} (moment : D → Moment) (s : Standing D) (k : Keeping) (change : Change) (changed : Option Changed) (session sequence : ℕ) (p : Prepared) (comes : Bool) (new : Standing D)
    → new ≡ reaped_if comes s → IsBefore moment s k change changed session sequence → ((t : Standing D) → IsAt moment t k → NeedsAreCosts moment t k)
    → IsPreparedAs k.slots.target sequence k.catalog (newest_now s change) (length k.rows) change (draft_of sequence changed) session new.ledger p
    → needs_by k.slots.target k.catalog (newest_now s change) change (draft_of sequence changed) ≤ length (free_pages new.ledger) → IsFor moment new k changed p
prepared_new moment s k change changed session sequence p comes new e is costs made fits =
    let own = subst (λ (t : Standing _). IsPreparedAs k.slots.target sequence k.catalog (newest_now s change) (length k.rows) change (draft_of sequence changed) session t.ledger p) e made in
    let enough = subst (λ (t : Standing _). needs_by k.slots.target k.catalog (newest_now s change) change (draft_of sequence changed) ≤ length (free_pages t.ledger)) e fits in
    subst (λ (t : Standing _). IsFor moment t k changed p) (sym e) (prepared_still moment s k change changed session sequence p comes is costs own enough)
