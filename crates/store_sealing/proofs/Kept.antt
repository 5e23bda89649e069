-- A store keeps what it keeps over a commit that is sealed.
use Rattle.std.proofs.Common.{◌≡◌, ◌∙◌, ℕ, ◌+◌, true, List, [], ◌∷◌, ◌++◌, length, Option, None, Some, IsTrue, ap, sym, subst, length-append}
use Rattle.std.proofs.lemmas.Bool.{not_from_false}
use Rattle.std.proofs.lemmas.List.{length-reverse}
use Rattle.afl_outside.specs.Disk.{Moment}
use Rattle.logical_plan.specs.declared.names.Names.{Names}
use Rattle.plan_changes.specs.Allowed.{names_allow}
use Rattle.plan_changes.specs.Changes.{names_after}
use Rattle.version_catalog.specs.declared.rules.catalog.Catalog.{Catalog}
use Rattle.version_catalog.specs.Catalogs.{IsCatalog, names_in}
use Rattle.version_catalog.specs.Changed.{after_change, has_its_directory}
use Rattle.version_catalog.proofs.Kept.{names_are_kept}
use Rattle.version_catalog.proofs.Spelled.{changes_keep_catalogs}
use Rattle.event_core.specs.declared.entry.Used.{Used}
use Rattle.event_core.specs.Bases.{commits}
use Rattle.event_core.specs.History.{History, catalogue_at, names_at}
use Rattle.store_versions.proofs.Legal.{ordered_is_allowed}
use Rattle.page_file.specs.declared.commits.placed.Placed.{Placed}
use Rattle.store_state.specs.RowsLaws.{OrdersFollow}
use Rattle.store_state.specs.Laid.{Laid}
use Rattle.store_ledger.specs.Ledger.{history}
use Rattle.store_ledger.proofs.Pins.{one_more}
use Rattle.store_versions.specs.Laws.{with_made}
use Rattle.store_versions.specs.Versions.{Directories}
use Rattle.prepared_commits.specs.Standings.{Standing, base_of, given_of, commit_places}
use Rattle.prepared_commits.specs.Kept.{IsKept, AreSlots}
use Rattle.prepared_commits.specs.Keeping.{Keeping}
use Rattle.prepared_commits.specs.declared.commits.prepared.NewBase.{NewBase}
use Rattle.prepared_commits.specs.declared.commits.prepared.Prepared.{Prepared}
use Rattle.prepared_commits.specs.Needs.{IsLaidBy, newest_now, next_sequence}
use Rattle.store_sealing.specs.StepsLaws.{IsReady, SealedStoresAreKept}
use Rattle.store_sealing.specs.Steps.{entry_of, made_by, sealed_keeping, sealed_ledger, sealed_slots}
use Rattle.store_sealing.proofs.Catalogs.{IsLaidOf, IsMadeOf, record_is, record_tells, base_is, base_tells, has_its, new_of}
use Rattle.store_sealing.proofs.Givens.{count_places, given_more}
use Rattle.store_sealing.proofs.Notes.{kept_on}
use Rattle.store_sealing.proofs.Schemas.{IsNew}
use Rattle.store_sealing.proofs.Slots.{base_slots, record_slots, sealed_shut, target_of}
use Rattle.store_sealing.proofs.Tried.{tried_commit}
use Rattle.store_sealing.proofs.Versions.{versions_commit}

module _ {D : Type 0} (moment : D → Moment) (s : Standing D) (k : Keeping) (p : Prepared) (ready : IsReady moment s k p) where
  abbrev h : History
  h = history s.ledger

  abbrev names : Names
  names = names_at s.ledger.base h

  -- ---- what is laid

  laid_by : (base : Option NewBase) → IsLaidBy s k p.commit.change ready.changed ready.pages base ready.laid → IsLaidOf k.catalog p.commit.change ready.changed ready.laid
  laid_by None is = subst (IsLaidOf k.catalog p.commit.change ready.changed) (sym is.is)
      (record_is k.catalog (catalogue_at s.ledger.base h) (newest_now s p.commit.change) p.commit.change (next_sequence s) ready.changed ready.pages)
  laid_by (Some base) is = subst (IsLaidOf k.catalog p.commit.change ready.changed) (sym is.is)
      (base_is k.catalog (newest_now s p.commit.change) p.commit.change (next_sequence s) ready.changed ready.pages base.log)

  laid : IsLaidOf k.catalog p.commit.change ready.changed ready.laid
  laid = laid_by p.base ready.is_laid.by

  -- it has the target that there is
  pub its_target : k.slots.target ≡ target_of p.base
  its_target = by_base p.base ready.is_laid.by
    where
      by_base : (base : Option NewBase) → IsLaidBy s k p.commit.change ready.changed ready.pages base ready.laid → k.slots.target ≡ target_of base
      by_base None is = is.target
      by_base (Some base) is = is.target

  new : IsNew p.commit.change (made_by p) p.commit.used.version
  new = new_of p.commit.change ready.changed p.version ready.laid.at ready.laid.directory p.commit.used.version ready.asked.comes
      (subst (λ (used : Used). IsMadeOf ready.changed ready.laid.at ready.laid.directory used.version) (sym ready.is_laid.used) laid.version)
      ready.is_laid.rules ready.is_laid.directory

  -- ---- the catalogue

  has : has_its_directory p.commit.change ready.laid.at ≡ true
  has = has_its p.commit.change ready.changed ready.laid.at ready.laid.directory ready.laid.used.version ready.asked.comes laid.version

  its_catalog : p.catalog ≡ after_change k.catalog p.commit.change ready.laid.at
  its_catalog = ready.is_laid.catalog ∙ laid.catalog

  catalog_kept : IsCatalog p.catalog
  catalog_kept = subst IsCatalog (sym its_catalog)
      (changes_keep_catalogs k.catalog p.commit.change ready.laid.at ready.kept.catalog ready.asked.named
      (subst (λ (ns : Names). IsTrue (names_allow ns p.commit.change)) (sym ready.kept.names) ready.asked.typed.0) has ready.is_laid.blob)

  names_kept : names_in p.catalog ≡ names_after names p.commit.change
  names_kept = ap (λ (c : Catalog). names_in c) its_catalog ∙ names_are_kept k.catalog p.commit.change ready.laid.at has
      ∙ ap (λ (ns : Names). names_after ns p.commit.change) ready.kept.names

  -- ---- the slots

  slots_kept : AreSlots (base_of s) (entry_of p ∷ h) (sealed_slots p.base p.chain k.slots)
  slots_kept = by_base p.base ready.is_laid.by
    where
      by_base : (base : Option NewBase) → IsLaidBy s k p.commit.change ready.changed ready.pages base ready.laid →
          AreSlots (base_of s) (entry_of p ∷ h) (sealed_slots base p.chain k.slots)
      by_base None is =
          let told : ready.laid.used.catalogue ≡ catalogue_at s.ledger.base h ++ ready.laid.chain.pages =
          subst (λ (l : Laid). l.used.catalogue ≡ catalogue_at s.ledger.base h ++ l.chain.pages) (sym is.is) (record_tells k.catalog (catalogue_at s.ledger.base h) _ p.commit.change _ ready.pages) in
          record_slots (base_of s) h k.slots p.session p.commit.change p.commit.used p.chain is.target
          (ap (λ (u : Used). u.catalogue) ready.is_laid.used ∙ told ∙ ap (λ (ps : List ℕ). catalogue_at s.ledger.base h ++ ps) (sym (ap (λ (c : Placed). c.pages) ready.is_laid.chain)))
          ready.kept.slots
      by_base (Some base) is =
          let told : ready.laid.used.catalogue ≡ ready.laid.chain.pages ++ base.log ∷ [] =
          subst (λ (l : Laid). l.used.catalogue ≡ l.chain.pages ++ base.log ∷ []) (sym is.is) (base_tells k.catalog _ p.commit.change _ ready.pages base.log) in
          base_slots (base_of s) h k.slots p.session p.commit.change p.commit.used base p.chain ready.may_come.records is.target is.sequence
          (ap (λ (u : Used). u.catalogue) ready.is_laid.used ∙ told ∙ ap (λ (ps : List ℕ). ps ++ base.log ∷ []) (sym (ap (λ (c : Placed). c.pages) ready.is_laid.chain)))
          ready.kept.slots

  -- ---- all of it, before the disk is looked at

  module _ (follow : OrdersFollow) (since : ℕ) where
    abbrev next : Standing D
    next = record s { ledger = sealed_ledger s p; doubt = None; acked = s.acked ++ since ∷ []; made = s.made ++ made_by p ∷ [] }

    kept_next : IsKept moment next (sealed_keeping s k p) (entry_of p ∷ h) (with_made (length h) (made_by p) (given_of s))
    kept_next =
        let x : IsKept moment s k h (given_of s) = ready.kept in
        let made : length s.made ≡ commits h = x.made in
        let acked : length s.acked ≡ commits h = x.acked in
        record {
          in_order = record {
            ordered = (x.in_order.ordered, ready.may_come.allowed, (not_from_false _ ready.may_come.first, ready.asked.named, ready.asked.typed.1));
            own = (x.in_order.own, ready.may_come.own);
            apart = x.in_order.apart;
          };
          catalog = catalog_kept;
          names = names_kept;
          versions = versions_commit follow s.ledger.base (given_of s) h k.rows k.catalog x.in_order.ordered x.names x.versions (made_by p) p.session p.commit.change p.commit.used
              (length s.ledger.entries) (sym (length-reverse s.ledger.entries)) ready.asked.typed new;
          slots = slots_kept;
          doubt = sealed_shut p.base p.chain k.slots (λ none. its_target ∙ ap target_of none) x.slots.alone;
          acked = length-append s.acked (since ∷ []) ∙ ap (λ (n : ℕ). n + 1) acked;
          made = length-append s.made (made_by p ∷ []) ∙ ap (λ (n : ℕ). n + 1) made;
          tried = tried_commit s.ledger.base h s.ledger.notes p.session p.commit.change p.commit.used (ordered_is_allowed s.ledger.base h x.in_order.ordered).1 ready.may_come.noted x.tried;
          noted = x.noted;
        }

    kept_sealed : IsKept moment next (sealed_keeping s k p) (history (sealed_ledger s p)) (given_of next)
    kept_sealed =
        let later : history (sealed_ledger s p) ≡ entry_of p ∷ h = one_more s.ledger.entries (entry_of p) in
        let each : length (commit_places 0 s.ledger.entries) ≡ length s.made = count_places 0 s.ledger.entries ∙ sym ready.kept.made in
        let same : given_of next ≡ with_made (length h) (made_by p) (given_of s) =
        given_more s.first s.ledger.entries s.made (length h) p.session p.commit.change p.commit.used (made_by p) (length-reverse s.ledger.entries) each in
        subst (λ (h' : History). IsKept moment next (sealed_keeping s k p) h' (given_of next)) (sym later)
        (subst (λ (given : Directories). IsKept moment next (sealed_keeping s k p) (entry_of p ∷ h) given) (sym same) kept_next)

pub sealed_stores : {D : Type 0} (moment : D → Moment) → OrdersFollow → SealedStoresAreKept moment
sealed_stores moment follow s k p ledger disk ready on notes =
    kept_on moment (next moment s k p ready follow (moment disk).state.moment) (sealed_keeping s k p) disk p.session on
    (kept_sealed moment s k p ready follow (moment disk).state.moment) ledger notes
