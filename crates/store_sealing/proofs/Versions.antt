-- The versions after a commit, in the table, at the present and at each open pin.
use Rattle.std.proofs.Common.{◌≡◌, ◌∙◌, ℕ, Bool, if◌then◌else◌, List, ◌∷◌, length, IsTrue, refl, ap, sym, subst, arith}
use Rattle.std.specs.List.{AllByRecursion, AllZip}
use Rattle.std.proofs.lemmas.Bool.{eq-eqb}
use Rattle.chunk_map.specs.declared.directory.Directory.{Directory}
use Rattle.logical_plan.specs.declared.names.Names.{Names}
use Rattle.plan_changes.specs.declared.change.Change.{Change}
use Rattle.plan_changes.specs.Allowed.{names_allow}
use Rattle.plan_changes.specs.Changes.{names_after}
use Rattle.plan_changes.specs.Stored.{AreStored}
use Rattle.plan_changes.specs.Typed.{IsTypedFor}
use Rattle.version_catalog.specs.declared.rules.catalog.Catalog.{Catalog}
use Rattle.version_catalog.specs.Catalogs.{names_in}
use Rattle.event_core.specs.declared.entry.Used.{Used}
use Rattle.event_core.specs.declared.entry.Entry.TheVariants.{Commit}
use Rattle.event_core.specs.declared.state.Core.{Core}
use Rattle.event_core.specs.History.{History, OpenPin, names_at, open_pins, pages_at}
use Rattle.event_core.specs.Legal.{IsOrdered}
use Rattle.store_versions.proofs.Legal.{ordered_names_are_stored}
use Rattle.store_state.specs.RowsLaws.{OrdersFollow}
use Rattle.store_state.specs.Rows.{AreInOrder}
use Rattle.store_versions.specs.declared.row.VersionRow.{VersionRow}
use Rattle.store_versions.specs.Laws.{with_made}
use Rattle.store_versions.specs.Rows.{needed_rows, places_at, rows_after}
use Rattle.store_versions.specs.Seen.{seen, AreSeen}
use Rattle.store_versions.specs.Versions.{Directories, HaveDirectories, MadeVersion, versions_after, versions_at}
use Rattle.store_versions.proofs.Given.{later_directories_are_free}
use Rattle.store_versions.proofs.Made.{named_versions_have_directories}
use Rattle.store_versions.proofs.Seen.{all_two, tables_follow_entries, forgetting_is_seen}
use Rattle.prepared_commits.specs.Kept.{AreVersions}
use Rattle.prepared_commits.specs.Keeping.{AreDirectoriesOf, HasItsPages, IsDirectoryOf}
use Rattle.store_sealing.proofs.Schemas.{IsNew, made_so, suit_after, pages_after_change}

module _ (follow : OrdersFollow) (base : Core) (given : Directories) (h : History) (rows : List VersionRow) (catalog : Catalog)
    (ordered : IsOrdered base h) (named : names_in catalog ≡ names_at base h) (x : AreVersions base given h rows) where
  -- the versions of now stand in the order of their numbers after a change too
  order_after : (change : Change) (directory : Directory) → IsTrue (names_allow (names_at base h) change) →
      AreInOrder (names_after (names_at base h) change) (versions_after (names_at base h) change directory (versions_at base given h))
  order_after change directory ok =
      let versions : List MadeVersion = versions_at base given h in
      subst (λ (names : Names). AreInOrder (names_after names change) (versions_after names change directory versions)) named
      (follow catalog versions change directory
      (record {
        stored = subst AreStored (sym named) (ordered_names_are_stored base h ordered);
        have = subst (λ (names : Names). HaveDirectories names versions) (sym named) (named_versions_have_directories given base h ordered x.first);
        order = subst (λ (names : Names). AreInOrder names versions) (sym named) x.in_order;
      })
      (subst (λ (names : Names). IsTrue (names_allow names change)) (sym named) ok))

  module _ (directory : Directory) where
    abbrev more : Directories
    more = with_made (length h) directory given

    free : AreSeen more rows base h
    free = later_directories_are_free given rows base h (length h) directory (omega arith) x.seen

    abbrev Sees : Directories → OpenPin → Type 0
    Sees all pin = seen (length pin.before) rows ≡ versions_at base all pin.before

    -- what was made earlier stays
    same_now : versions_at base more h ≡ versions_at base given h
    same_now = sym free.now ∙ x.seen.now

    same_pinned : AllByRecursion (λ pin. versions_at base given pin.before ≡ versions_at base more pin.before) (open_pins h)
    same_pinned = all_two (Sees given) (Sees more) (λ pin. versions_at base given pin.before ≡ versions_at base more pin.before) (λ pin was is. sym was ∙ is) (open_pins h)
        x.seen.pinned free.pinned

    its_directory : more.made (length h) ≡ directory
    its_directory = ap (λ (b : Bool). if b then directory else given.made (length h)) (eq-eqb (length h) (length h) refl)

    -- the versions after the commit
    after_is : (session : ℕ) (change : Change) (used : Used) →
        versions_at base more (Commit session change used ∷ h) ≡ versions_after (names_at base h) change directory (versions_at base given h)
    after_is session change used =
        ap (λ (d : Directory). versions_after (names_at base h) change d (versions_at base more h)) its_directory
        ∙ ap (versions_after (names_at base h) change directory) same_now

    pub versions_commit : (session : ℕ) (change : Change) (used : Used) (place : ℕ) → place ≡ length h → IsTypedFor (names_at base h) change → IsNew change directory used.version →
        AreVersions base more (Commit session change used ∷ h) (needed_rows (places_at h) (rows_after (names_at base h) place change directory rows))
    versions_commit session change used place at typed new =
        let names : Names = names_at base h in
        let next : History = Commit session change used ∷ h in
        let is : versions_at base more next ≡ versions_after names change directory (versions_at base given h) = after_is session change used in
        let table : AreSeen more (rows_after names (length h) change directory rows) base next =
        subst (λ (d : Directory). AreSeen more (rows_after names (length h) change d rows) base next) its_directory
        ((tables_follow_entries more rows base h free).commit session change used) in
        record {
          first = x.first;
          seen = subst (λ (n : ℕ). AreSeen more (needed_rows (places_at h) (rows_after names n change directory rows)) base next) (sym at)
              (forgetting_is_seen more (rows_after names (length h) change directory rows) base next table);
          now = subst (AreDirectoriesOf (names_after names change)) (sym is)
              (suit_after IsDirectoryOf names (versions_at base given h) directory (named_versions_have_directories given base h ordered x.first) x.now change typed
              (made_so change directory used.version new));
          pinned = all_two (λ pin. versions_at base given pin.before ≡ versions_at base more pin.before) (λ pin. AreDirectoriesOf (names_at base pin.before) (versions_at base given pin.before))
              (λ pin. AreDirectoriesOf (names_at base pin.before) (versions_at base more pin.before))
              (λ pin same its. subst (AreDirectoriesOf (names_at base pin.before)) same its) (open_pins h) same_pinned x.pinned;
          in_order = subst (AreInOrder (names_after names change)) (sym is) (order_after change directory typed.0);
          pages = subst (AllZip HasItsPages (pages_at base next)) (sym is)
              (pages_after_change names change used.version directory (pages_at base h) (versions_at base given h) new x.pages);
          pinned_pages = all_two (λ pin. versions_at base given pin.before ≡ versions_at base more pin.before) (λ pin. AllZip HasItsPages (pages_at base pin.before) (versions_at base given pin.before))
              (λ pin. AllZip HasItsPages (pages_at base pin.before) (versions_at base more pin.before))
              (λ pin same its. subst (AllZip HasItsPages (pages_at base pin.before)) same its) (open_pins h) same_pinned x.pinned_pages;
        }
