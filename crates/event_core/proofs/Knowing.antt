-- The pages that are not fresh, as one list.
use Rattle.std.proofs.Common.{◌≡◌, ◌∙◌, ℕ, Bool, true, false, not, ◌&&◌, ◌||◌, if◌then◌else◌, nat_eq, List, [], ◌∷◌, ◌++◌, refl, ap}
use Rattle.std.specs.List.{filter, flat_map, list_any}
use Rattle.std.proofs.Math.Bool.{or_comm}
use Rattle.std.proofs.lemmas.List.Concat.{flat_map-cons}
use Rattle.std.proofs.lemmas.List.Folds.{list_any-append}
use Rattle.plan_changes.specs.Names.{Names}
use Rattle.plan_changes.specs.Changes.{newest_of, name_of}
use Rattle.plan_changes.specs.declared.change.Change.{Change}
use Rattle.version_reaper.specs.PageSets.{holds}
use Rattle.event_core.specs.declared.entry.Used.{Used}
use Rattle.event_core.specs.declared.state.VersionPages.{VersionPages}
use Rattle.event_core.specs.History.{is_pages_of}
use Rattle.event_core.specs.Pages.{is_newest, fresh_of}
use Rattle.event_core.specs.Inner.Known.{pages_if, known_of}
use Rattle.event_core.proofs.Tests.{filter_agrees}

held_if : (b : Bool) (pages : List ℕ) (page : ℕ) → holds (if b then pages else []) page ≡ (b && holds pages page)
held_if true pages page = refl
held_if false pages page = refl

any_of_versions : (name : List ℕ) (number : ℕ) (versions : List VersionPages) (page : ℕ) →
    holds (flat_map (pages_if name number) versions) page ≡ list_any (λ v. is_pages_of name v && nat_eq v.version number && holds v.pages page) versions
any_of_versions name number [] page = refl
any_of_versions name number (v ∷ versions) page =
    ap (λ pages. holds pages page) (flat_map-cons (pages_if name number) v versions)
    ∙ list_any-append (λ other. nat_eq other page) (pages_if name number v) (flat_map (pages_if name number) versions)
    ∙ ap (λ b. b || holds (flat_map (pages_if name number) versions) page) (held_if (is_pages_of name v && nat_eq v.version number) v.pages page)
    ∙ ap (λ b. (is_pages_of name v && nat_eq v.version number && holds v.pages page) || b) (any_of_versions name number versions page)

-- what is known is of the newest version or of the catalogue
known_is : (names : Names) (versions : List VersionPages) (catalogue name : List ℕ) (page : ℕ) →
    holds (known_of names versions catalogue name) page ≡ (is_newest names versions name page || holds catalogue page)
known_is names versions catalogue name page =
    list_any-append (λ other. nat_eq other page) catalogue (flat_map (pages_if name (newest_of names.arrays name)) versions)
    ∙ ap (λ b. holds catalogue page || b) (any_of_versions name (newest_of names.arrays name) versions page)
    ∙ or_comm (holds catalogue page) (is_newest names versions name page)

-- what is not known is fresh
pub unknown_is : (names : Names) (versions : List VersionPages) (catalogue : List ℕ) (change : Change) (used : Used) →
    filter (λ page. not (holds (known_of names versions catalogue (name_of change)) page)) (used.version ++ used.catalogue) ≡ fresh_of names versions catalogue change used
unknown_is names versions catalogue change used =
    filter_agrees (λ page. not (holds (known_of names versions catalogue (name_of change)) page)) (λ page. not (is_newest names versions (name_of change) page || holds catalogue page))
    (λ page. ap not (known_is names versions catalogue (name_of change) page)) (used.version ++ used.catalogue)
