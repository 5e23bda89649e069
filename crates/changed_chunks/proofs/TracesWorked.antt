-- Of arrays of three chunks one, two or all are asked for, and of an array without versions none of none.
use Rattle.std.proofs.Common.{◌≡◌, ℕ, ℤ, pos, true, List, [], ◌∷◌, refl, codes}
use Rattle.std.specs.Fmt.{digits}
use Rattle.cell_values.specs.declared.datum.Cell.TheVariants.{Full}
use Rattle.cell_values.specs.declared.datum.Datum.TheVariants.{Int}
use Rattle.cell_values.specs.declared.datum.Row.{Row}
use Rattle.cell_values.specs.declared.schema.Kind.TheVariants.{Int64}
use Rattle.array_rows.specs.Boxes.{corners}
use Rattle.array_rows.specs.Rows.{placed}
use Rattle.logical_plan.specs.declared.parts.AggFunction.TheVariants.{Sum}
use Rattle.logical_plan.specs.declared.parts.Leaf.{Leaf}
use Rattle.logical_plan.specs.Meaning.{Database}
use Rattle.logical_plan.specs.Query.{Query, between, scanned, windowed}
use Rattle.changed_chunks.specs.Traced.{plan_lines}

-- `<v:int64>[i=0:5,2,overlap]`
leaf : List ℕ → ℕ → ℕ → Leaf
leaf name version overlap = record {
  name = name;
  version = version;
  schema = record {
    attributes = record { name = codes "v"; kind = Int64; nullable = true } ∷ [];
    dimensions = record { name = codes "i"; lo = pos 0; hi = pos 5; chunk = 2; overlap = overlap } ∷ [];
  };
}

a : Leaf
a = leaf (codes "A") 1 1

b : Leaf
b = leaf (codes "B") 1 0

cell : ℤ → Row
cell i = placed (i ∷ []) (Full (Int i ∷ []))

-- each place has a cell, so there are three chunks
db : Database
db name version = cell (pos 0) ∷ cell (pos 1) ∷ cell (pos 2) ∷ cell (pos 3) ∷ cell (pos 4) ∷ cell (pos 5) ∷ []

all_of_three : plan_lines db (scanned a) ≡ codes "trace: A@1 asked 3 of 3\n"
unfolding a leaf cell db digits
all_of_three = refl

one_of_three : plan_lines db (between (scanned a) (corners (pos 4 ∷ []) (pos 5 ∷ []))) ≡ codes "trace: A@1 asked 1 of 3\n"
unfolding a leaf cell db digits
one_of_three = refl

none_of_none : plan_lines db (scanned (leaf (codes "A") 0 1)) ≡ codes "trace: A@0 asked 0 of 0\n"
unfolding leaf cell db digits
none_of_none = refl

-- `between(window(A, 1, 1, sum(v) as s), 0, 1)`
windows : Leaf → Query
windows stored =
    between (windowed (scanned stored) (record { before = 1; after = 1 } ∷ []) (record { function = Sum; attribute = 0; name = codes "s" } ∷ [])) (corners (pos 0 ∷ []) (pos 1 ∷ []))

-- where the overlap reaches as far as the windows, the chunk has all of them
one_overlaps : plan_lines db (windows a) ≡ codes "trace: A@1 asked 1 of 3\n"
unfolding windows a leaf cell db digits
one_overlaps = refl

-- without an overlap the next chunk has the neighbour
two_apart : plan_lines db (windows b) ≡ codes "trace: B@1 asked 2 of 3\n"
unfolding windows b leaf cell db digits
two_apart = refl
