-- What frames hand on to the calls.
use Rattle.std.proofs.Common.{◌≡◌, ℕ, List, sym, subst}
use Rattle.cell_values.specs.declared.schema.Dimension.{Dimension}
use Rattle.cell_values.specs.declared.schema.Schema.{Schema}
use Rattle.array_geom.specs.Inner.Ranges.{AreNear, AreMargins}
use Rattle.array_geom.proofs.NearLemmas.{valid_placed, margins_of, near_slice}
use Rattle.chunk_cells.specs.Frames.{HasFrames}

pub near_dims : (schema : Schema) (margins : List ℕ) (dims : List Dimension) → dims ≡ schema.dimensions → HasFrames schema margins → AreNear dims
near_dims schema margins dims same frames = near_slice schema dims same frames.valid

pub near_margins : (schema : Schema) (margins : List ℕ) (dims : List Dimension) (ms : List ℕ) → dims ≡ schema.dimensions → ms ≡ margins → HasFrames schema margins → AreMargins dims ms
near_margins schema margins dims ms same same' frames =
    subst (λ (ds : List Dimension). AreMargins ds ms) (sym same)
    (subst (AreMargins schema.dimensions) (sym same') (margins_of schema.dimensions margins (valid_placed schema frames.valid).near frames.each frames.places))
