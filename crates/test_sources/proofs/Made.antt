-- The changes can be made over a source that has the array.
use Rattle.std.proofs.Common.{◌≡◌, None, inl, refl, sym, subst}
use Rattle.logical_plan.specs.declared.parts.Leaf.{Leaf}
use Rattle.logical_plan.specs.Typing.{IsTyped}
use Rattle.plan_changes.specs.declared.change.Change.{Change}
use Rattle.chunk_source.specs.Source.{Reads, SourceState}
use Rattle.changed_chunks.specs.Changing.{CanChange, CanStore}
use Rattle.test_sources.specs.Changed.{by_zero, change_of, target_of}
use Rattle.test_sources.specs.Example.{above_five, leaf, schema}
use Rattle.test_sources.specs.declared.changes.Case.{Case}
use Rattle.test_sources.specs.declared.changes.Case.TheVariants.{Stores, Inserts, Begins, Faults}
use Rattle.test_sources.specs.declared.layout.Layout.{Layout}
use Rattle.test_sources.specs.declared.layout.Layout.TheVariants.{Singles, Pairs, Whole}
use Rattle.test_sources.proofs.Executed.{typed}
use Rattle.test_sources.proofs.Stored.{valid}

typed_by_zero : (layout : Layout) → IsTyped (by_zero layout)
typed_by_zero Singles = (refl, refl)
typed_by_zero Pairs = (refl, refl)
typed_by_zero Whole = (refl, refl)

module _ (source : SourceState) (layout : Layout) (reads : Reads source (leaf layout)) where
  stored : CanStore source (schema layout) (above_five layout)
  stored = record { computed = record { typed = typed layout; reads = (reads, tt) }; valid = valid layout; fits = (None, refl) }

  faulty : CanStore source (schema layout) (by_zero layout)
  faulty = record { computed = record { typed = typed_by_zero layout; reads = (reads, tt) }; valid = valid layout; fits = (None, refl) }

  of_case : (case : Case) → CanChange source (change_of case layout) (target_of case layout)
  of_case Stores = stored
  of_case Inserts = (stored, reads, refl)
  of_case Begins = (stored, inl refl, refl)
  of_case Faults = (faulty, reads, refl)

pub can_change : (source : SourceState) (layout : Layout) (case : Case) (change : Change) (target : Leaf) → change ≡ change_of case layout → target ≡ target_of case layout → Reads source (leaf layout) → CanChange source change target
can_change source layout case change target c t reads =
    subst (λ (z : Change). CanChange source z target) (sym c) (subst (CanChange source (change_of case layout)) (sym t) (of_case source layout reads case))
