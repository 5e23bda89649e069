-- A directory is laid just where chunks are written.
use Rattle.std.proofs.Common.{◌≡◌, ◌∙◌, ℕ, List, Option, Some, None, refl, ap}
use Rattle.std.specs.Option.{is_some}
use Rattle.chunk_map.specs.declared.directory.Directory.{Directory}
use Rattle.page_chain.specs.declared.slots.slots.slots.Target.{Target}
use Rattle.page_chain.specs.declared.slots.slots.slots.Target.TheVariants.{Root, Record}
use Rattle.plan_changes.specs.declared.change.Change.{Change}
use Rattle.version_catalog.specs.declared.rules.catalog.Catalog.{Catalog}
use Rattle.store_state.specs.Laid.{Laid}
use Rattle.store_state.specs.Written.{Written}
use Rattle.store_state.specs.Commits.{record_laid, base_laid}
use Rattle.store_state.specs.Versions.{version_in}
use Rattle.prepared_commits.specs.declared.parts.laying.Layout.{Layout}
use Rattle.prepared_commits.specs.Layouts.{IsLayout, laid_by}

comes_by : (target : Target) (catalog : Catalog) (catalogue : List ℕ) (newest : Directory) (change : Change) (written : Option Written) (free : List ℕ)
    → is_some (laid_by target catalog catalogue newest change written free).directory ≡ is_some written
unfolding base_laid version_in record_laid
comes_by Record catalog catalogue newest change None free = refl
comes_by Record catalog catalogue newest change (Some written) free = refl
comes_by Root catalog catalogue newest change None free = refl
comes_by Root catalog catalogue newest change (Some written) free = refl

pub directory_comes : (target : Target) (sequence : ℕ) (catalog : Catalog) (catalogue : List ℕ) (newest : Directory) (change : Change) (written : Option Written)
    (free : List ℕ) (layout : Layout) → IsLayout target sequence catalog catalogue newest change written free layout
    → is_some layout.laid.directory ≡ is_some written
directory_comes target sequence catalog catalogue newest change written free layout is =
    ap (λ (laid : Laid). is_some laid.directory) is.laid ∙ comes_by target catalog catalogue newest change written free
