-- The pages of a commit that is ready, and the schema of its array, whatever its disk tells.
use Rattle.std.proofs.Common.{◌≡◌, ◌∙◌, ℕ, ◌<◌, List, [], ◌∷◌, ◌++◌, Option, None, Some, IsTrue, false, ap, sym, subst}
use Rattle.std.specs.List.{AllByRecursion}
use Rattle.afl_outside.specs.Disk.{Moment}
use Rattle.array_geom.specs.declared.chunk.Changed.{Changed}
use Rattle.page_chain.specs.Standing.{target_page}
use Rattle.page_chain.specs.declared.slots.slots.slots.Target.{Target}
use Rattle.logical_plan.specs.declared.names.NameEntry.{NameEntry}
use Rattle.logical_plan.specs.declared.names.Names.{Names}
use Rattle.plan_changes.specs.declared.change.Change.{Change}
use Rattle.plan_changes.specs.declared.change.Change.TheVariants.{Create, Store, Insert, Remove, RemoveVersions}
use Rattle.plan_changes.specs.Changes.{entry_named, name_of}
use Rattle.plan_changes.specs.Typed.{FitsInto, IsTypedFor}
use Rattle.version_reaper.specs.PageSets.{holds}
use Rattle.event_core.specs.Allowed.{IsBase, is_allowed}
use Rattle.event_core.specs.History.{catalogue_at}
use Rattle.event_core.specs.Pages.{free_at, is_live}
use Rattle.store_versions.proofs.Legal.{ordered_is_allowed}
use Rattle.file_meaning.proofs.Parts.{front_all}
use Rattle.file_meaning.proofs.Free.{weaker}
use Rattle.store_state.specs.Laid.{Laid}
use Rattle.store_state.specs.Changes.{ComesWith}
use Rattle.store_ledger.specs.Ledger.{history}
use Rattle.prepared_commits.specs.Standings.{Standing}
use Rattle.prepared_commits.specs.Keeping.{Keeping}
use Rattle.prepared_commits.specs.declared.commits.prepared.NewBase.{NewBase}
use Rattle.prepared_commits.specs.declared.commits.prepared.Prepared.{Prepared}
use Rattle.prepared_commits.specs.Needs.{IsLaidBy, all_pages, newest_now, next_sequence}
use Rattle.store_sealing.specs.StepsLaws.{IsReady}
use Rattle.store_sealing.specs.Moves.{own_pages, slot_page}
use Rattle.store_sealing.proofs.CellsPages.{base_all, positive, record_all, unnamed}

-- what is laid, of what is prepared
abbrev pub laid_of : Prepared → Laid → Laid
laid_of p laid = record { blobs = p.blobs; chain = p.chain; directory = laid.directory; at = laid.at; catalog = p.catalog; used = p.commit.used }

-- chunks that come with a change have the schema of its array, if that stands
pub its_schema : (names : Names) (change : Change) (some : Changed) → IsTypedFor names change → ComesWith change (Some some) → (entry : NameEntry) → entry_named names.arrays (name_of change) ≡ Some entry
    → entry.schema ≡ some.schema
its_schema names (Create name schema) some typed comes entry named = absurd cc
its_schema names (Store name schema plan) some typed comes entry named =
    let fits : FitsInto (Some entry) schema plan = subst (λ (o : Option NameEntry). FitsInto o schema plan) named typed.1.1 in sym fits.0 ∙ sym comes.0
its_schema names (Insert name schema plan) some typed comes entry named =
    let fits : FitsInto (Some entry) schema plan = subst (λ (o : Option NameEntry). FitsInto o schema plan) named typed.1.1 in sym fits.0 ∙ sym comes.0
its_schema names (Remove name) some typed comes entry named = absurd cc
its_schema names (RemoveVersions name below) some typed comes entry named = absurd cc

module _ {D : Type 0} (moment : D → Moment) (s : Standing D) (k : Keeping) (p : Prepared) (ready : IsReady moment s k p) where
  abbrev LaidBy : Option NewBase → Type 0
  LaidBy o = IsLaidBy s k p.commit.change ready.changed ready.pages o ready.laid

  pub begins : IsBase s.ledger.base × IsTrue (is_allowed s.ledger.base (history s.ledger))
  begins = ordered_is_allowed s.ledger.base (history s.ledger) ready.kept.in_order.ordered

  pub laid_is : laid_of p ready.laid ≡ ready.laid
  laid_is = λ i. record {
    blobs = ready.is_laid.blobs i;
    chain = ready.is_laid.chain i;
    directory = ready.laid.directory;
    at = ready.laid.at;
    catalog = ready.is_laid.catalog i;
    used = ready.is_laid.used i;
  }

  page_by : (o : Option NewBase) → LaidBy o → slot_page o k.slots ≡ target_page k.slots.target k.slots
  page_by None is = ap (λ (target : Target). target_page target k.slots) (sym is.target)
  page_by (Some base) is = ap (λ (target : Target). target_page target k.slots) (sym is.target)

  pub page_is : slot_page p.base k.slots ≡ target_page k.slots.target k.slots
  page_is = page_by p.base ready.is_laid.by

  own_by : (o : Option NewBase) → LaidBy o → own_pages o p.blobs p.chain ≡ all_pages ready.pages o
  own_by None is =
      record_all k.catalog (catalogue_at s.ledger.base (history s.ledger)) (newest_now s p.commit.change) p.commit.change ready.changed (next_sequence s) ready.pages (laid_of p ready.laid) ready.asked.comes ready.asked.valid
      is.enough (laid_is ∙ is.is)
  own_by (Some base) is = ap (λ (pages : List ℕ). pages ++ base.log ∷ [])
      (base_all k.catalog (newest_now s p.commit.change) p.commit.change ready.changed (next_sequence s) ready.pages base.log (laid_of p ready.laid) ready.asked.valid is.enough (laid_is ∙ is.is))

  -- nobody can name one of its own pages
  pub own_unnamed : AllByRecursion (λ q. is_live s.ledger.base (history s.ledger) q ≡ false) (own_pages p.base p.blobs p.chain)
  own_unnamed = subst (λ (pages : List ℕ). AllByRecursion (λ q. is_live s.ledger.base (history s.ledger) q ≡ false) pages) (sym (own_by p.base ready.is_laid.by))
      (unnamed s.ledger.base (history s.ledger) begins.0 begins.1 (all_pages ready.pages p.base) ready.is_laid.free)

  abbrev IsFree : ℕ → Type 0
  IsFree page = IsTrue (holds (free_at s.ledger.base (history s.ledger)) page)

  given_free : (o : Option NewBase) → AllByRecursion IsFree (all_pages ready.pages o) → AllByRecursion IsFree ready.pages
  given_free None all = all
  given_free (Some base) all = front_all IsFree ready.pages (base.log ∷ []) all

  -- and none is page 0
  pub given_positive : AllByRecursion (λ q. 0 < q) ready.pages
  given_positive = weaker IsFree (λ q. 0 < q) (λ q held. positive s.ledger.base (history s.ledger) begins.0 begins.1 q held) ready.pages (given_free p.base ready.is_laid.free)
