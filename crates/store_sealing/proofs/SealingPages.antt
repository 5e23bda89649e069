-- A commit that is prepared may be written.
use Rattle.std.proofs.Common.{◌≡◌, ◌≢◌, ◌∙◌, ℕ, zero, suc, ◌<◌, Bool, true, false, ◌||◌, if◌then◌else◌, nat_eq, List, [], ◌∷◌, ◌++◌, length, Option, None, Some, IfSome, IsTrue, refl, ap, sym, subst, arith}
use Rattle.std.specs.Prelude.{nat_lt}
use Rattle.std.specs.List.{AllByRecursion}
use Rattle.std.specs.Option.{is_some}
use Rattle.std.proofs.lemmas.Bool.{ltb-true, or_left, or_right}
use Rattle.std.proofs.lemmas.Bool.Decides.{nat_tests}
use Rattle.afl_outside.specs.Disk.{Moment}
use Rattle.page_chain.specs.Places.{IsNone}
use Rattle.page_chain.specs.declared.slots.layout.sides.Format.{Format}
use Rattle.page_chain.specs.declared.slots.layout.sides.Format.TheVariants.{One, Two}
use Rattle.page_chain.specs.Pages.{AreDistinct}
use Rattle.page_chain.specs.Steps.{first_target}
use Rattle.page_chain.specs.declared.slots.slots.slots.Target.TheVariants as targets
use Rattle.page_file.specs.Written.{MayWrite}
use Rattle.chunk_map.specs.declared.directory.Directory.{Directory}
use Rattle.plan_changes.specs.declared.change.Change.{Change}
use Rattle.version_catalog.specs.declared.rules.catalog.Catalog.{Catalog}
use Rattle.version_reaper.specs.PageSets.{holds}
use Rattle.event_core.specs.declared.state.Core.{Core}
use Rattle.event_core.specs.Allowed.{IsBase, is_allowed}
use Rattle.event_core.specs.Apart.{makes_version}
use Rattle.event_core.specs.History.{History, catalogue_at}
use Rattle.event_core.specs.Pages.{free_at, is_live}
use Rattle.store_versions.proofs.Free.{no_free_page_is_live}
use Rattle.store_versions.proofs.Legal.{ordered_is_allowed}
use Rattle.page_file.specs.declared.commits.placed.Placed.{Placed}
use Rattle.page_file.specs.Commits.{base_pages, commit_pages, IsBlobSized, IsChainSized}
use Rattle.store_state.specs.Written.{Written}
use Rattle.store_state.specs.Laid.{Laid}
use Rattle.store_state.specs.Commits.{record_needs, base_needs, record_laid, base_laid}
use Rattle.store_state.specs.Versions.{IsWritten, new_version}
use Rattle.store_state.proofs.Chains.{record_lies, base_lies}
use Rattle.store_state.proofs.Records.{draft_comes, draft_written}
use Rattle.file_meaning.proofs.Free.{none_cons}
use Rattle.store_ledger.specs.Ledger.{history}
use Rattle.prepared_commits.specs.Standings.{Standing}
use Rattle.prepared_commits.specs.Keeping.{Keeping}
use Rattle.prepared_commits.specs.declared.commits.prepared.NewBase.{NewBase}
use Rattle.prepared_commits.specs.declared.commits.prepared.Prepared.{Prepared}
use Rattle.prepared_commits.specs.Needs.{IsLaidBy, all_pages, newest_now, next_sequence, written_now}
use Rattle.store_sealing.specs.StepsLaws.{IsReady}
use Rattle.store_sealing.specs.Inner.Writing.{MayBeWritten}

-- ---- free pages are none that is live

none_empty : (page : ℕ) → IsNone [] page
none_empty page k below e = omega (arith, below)

module _ (base : Core) (h : History) (begins : IsBase base) (allowed : IsTrue (is_allowed base h)) where
  differs : (page live : ℕ) → is_live base h live ≡ true → IsTrue (holds (free_at base h) page) → page ≢ live
  differs page live is free e =
      let both : true ≡ false = sym is ∙ ap (is_live base h) (sym e) ∙ no_free_page_is_live base h begins allowed page free in cc

  none_live : (live : ℕ) → is_live base h live ≡ true → (pages : List ℕ) → AllByRecursion (λ page. IsTrue (holds (free_at base h) page)) pages → IsNone pages live
  none_live live is [] free = none_empty live
  none_live live is (page ∷ pages) free = none_cons page pages live (differs page live is free.0) (none_live live is pages free.1)

never_zero : (n : ℕ) → nat_eq 0 (suc n) ≡ false
never_zero n = grind (arith, nat_tests)

rest_of : (a b : Bool) → a ≡ false → (a || b) ≡ true → b ≡ true
rest_of true b e is = cc
rest_of false b e is = is

log_is_live : (base : Core) (h : History) (log : ℕ) → IsTrue (holds (0 ∷ catalogue_at base h) log) → is_live base h log ≡ true
log_is_live base h zero is = refl
log_is_live base h (suc n) is = or_right (nat_eq (suc n) 0) _ (or_left (holds (catalogue_at base h) (suc n)) _ (rest_of (nat_eq 0 (suc n)) _ (never_zero n) is))

-- ---- the pages of what is laid

record_pages : (catalog : Catalog) (catalogue : List ℕ) (newest : Directory) (change : Change) (written : Option Written) (pages : List ℕ) (laid : Laid) → is_some written ≡ makes_version change
    → IfSome written IsWritten → length pages ≡ record_needs catalog newest change written → laid ≡ record_laid catalog catalogue newest change written pages → commit_pages laid.blobs laid.chain ≡ pages
unfolding record_laid
record_pages catalog catalogue newest change written pages laid comes is count e =
    (record_lies catalog catalogue newest change written pages (new_version pages written newest) laid comes is count refl e).all

new_pages : (catalog : Catalog) (newest : Directory) (change : Change) (written : Option Written) (pages : List ℕ) (log : ℕ) (laid : Laid)
    → IfSome written IsWritten → length pages ≡ base_needs catalog newest change written → laid ≡ base_laid catalog newest change written pages log → commit_pages laid.blobs laid.chain ≡ pages
unfolding base_laid
new_pages catalog newest change written pages log laid is count e =
    (base_lies catalog newest change written pages log (new_version pages written newest) laid is count refl e).all

-- ---- the target

there_by : (b : Bool) (count : ℕ) → nat_lt count 64 ≡ b → (if b then targets.Record else targets.Root) ≡ targets.Record → count < 64
there_by true count is e = ltb-true count 64 is
there_by false count is e = absurd cc

there : (format : Format) (count : ℕ) → first_target format count ≡ targets.Record → (format ≡ Two) × (count < 64)
there One count e = absurd cc
there Two count e = (refl, there_by (nat_lt count 64) count refl e)

-- ---- all of it

module _ {D : Type 0} (moment : D → Moment) (s : Standing D) (k : Keeping) (p : Prepared) (ready : IsReady moment s k p) where
  abbrev h : History
  h = history s.ledger

  may_write : (pages : List ℕ) → AreDistinct pages → AllByRecursion (λ page. IsTrue (holds (free_at s.ledger.base h) page)) pages → MayWrite pages k.slots
  may_write pages distinct free =
      let is = ordered_is_allowed s.ledger.base h ready.kept.in_order.ordered in
      record {
        distinct = distinct;
        apart = none_live s.ledger.base h is.0 is.1 0 refl pages free;
        log = none_live s.ledger.base h is.0 is.1 k.slots.current.root.log (log_is_live s.ledger.base h k.slots.current.root.log ready.kept.slots.log) pages free;
      }

  may_write_all : (pages all : List ℕ) → all ≡ pages → AreDistinct pages → AllByRecursion (λ page. IsTrue (holds (free_at s.ledger.base h) page)) pages → MayWrite all k.slots
  may_write_all pages all same distinct free = subst (λ (ps : List ℕ). MayWrite ps k.slots) (sym same) (may_write pages distinct free)

  as_laid : (pages : List ℕ) → commit_pages ready.laid.blobs ready.laid.chain ≡ pages → commit_pages p.blobs p.chain ≡ pages
  as_laid pages e = ap (λ (blobs : List Placed). commit_pages blobs p.chain) ready.is_laid.blobs
      ∙ ap (λ (chain : Placed). commit_pages ready.laid.blobs chain) ready.is_laid.chain ∙ e

  sized : AllByRecursion IsBlobSized p.blobs
  sized = subst (λ (blobs : List Placed). AllByRecursion IsBlobSized blobs) (sym ready.is_laid.blobs) ready.is_laid.sized

  chained : IsChainSized p.chain
  chained = subst IsChainSized (sym ready.is_laid.chain) ready.is_laid.chained

  is_written : IfSome (written_now s ready.changed) IsWritten
  is_written = draft_written ready.changed (next_sequence s) ready.asked.valid

  may_be : (base : Option NewBase) → IsLaidBy s k p.commit.change ready.changed ready.pages base ready.laid → AreDistinct (all_pages ready.pages base)
      → AllByRecursion (λ page. IsTrue (holds (free_at s.ledger.base h) page)) (all_pages ready.pages base) → MayBeWritten base k.slots p.blobs p.chain
  may_be None is distinct free = record {
    target = is.target;
    there = λ e. there k.slots.current.format (length k.slots.records) (sym ready.kept.slots.target ∙ e);
    free = may_write_all ready.pages (commit_pages p.blobs p.chain)
        (as_laid ready.pages (record_pages k.catalog (catalogue_at s.ledger.base h) (newest_now s p.commit.change) p.commit.change (written_now s ready.changed) ready.pages ready.laid
        (draft_comes p.commit.change ready.changed (next_sequence s) ready.asked.comes) is_written is.enough is.is)) distinct free;
    sized = sized;
    chained = chained;
  }
  may_be (Some base) is distinct free =
      let at = ready.kept.slots.sequence in
      let next = is.sequence in
      record {
        target = is.target;
        free = may_write_all (ready.pages ++ base.log ∷ []) (base_pages p.blobs p.chain base.log)
            (ap (λ (ps : List ℕ). ps ++ base.log ∷ [])
            (as_laid ready.pages (new_pages k.catalog (newest_now s p.commit.change) p.commit.change (written_now s ready.changed) ready.pages base.log ready.laid is_written is.enough is.is))) distinct free;
        sized = sized;
        chained = chained;
        newer = omega (arith, at, next);
      }

  pub may_be_written : MayBeWritten p.base k.slots p.blobs p.chain
  may_be_written = may_be p.base ready.is_laid.by ready.is_laid.distinct ready.is_laid.free
