-- Two dimensions of four and six places in chunks of two and three with an overlap of one, and the greatest frames.
use Rattle.std.proofs.Common.{◌≡◌, refl, pos, negsuc, true, false, List, [], ◌∷◌, codes, arith}
use Rattle.array_rows.specs.Dimension.{Dimension}
use Rattle.array_rows.specs.Cell.TheVariants.{Full}
use Rattle.array_rows.specs.Datum.TheVariants.{Null, Int}
use Rattle.array_rows.specs.Boxes.{corners}
use Rattle.array_geom.specs.declared.chunk.Chunk.{Chunk}
use Rattle.array_geom.specs.Geometry.{chunk_of, core, core_meets, frame, frame_lengths, has_core, coordinate_at, position_of, HasFrame}
use Rattle.array_geom.specs.Chunks.{IsChunk}
use Rattle.array_geom.specs.Inner.Example.{dimension, example, schema_of}

abbrev dims : List Dimension
dims = example.dimensions

number : chunk_of dims (pos 1 ∷ pos 4 ∷ []) ≡ 1 ∷ 1 ∷ []
number = refl

-- the last chunk is cut by the bounds
core_is_cut : core dims (1 ∷ 1 ∷ []) ≡ corners (pos 1 ∷ pos 3 ∷ []) (pos 2 ∷ pos 4 ∷ [])
core_is_cut = refl

frame_is_not : frame dims (1 ∷ 1 ∷ []) (1 ∷ 1 ∷ []) ≡ corners (pos 0 ∷ pos 2 ∷ []) (pos 3 ∷ pos 6 ∷ [])
frame_is_not = refl

frame_passes_the_low_bound : frame dims (1 ∷ 1 ∷ []) (0 ∷ 0 ∷ []) ≡ corners (negsuc 1 ∷ negsuc 0 ∷ []) (pos 1 ∷ pos 3 ∷ [])
frame_passes_the_low_bound = refl

no_third_chunk : has_core dims (2 ∷ 0 ∷ []) ≡ false
no_third_chunk = refl

lengths : frame_lengths dims (1 ∷ 1 ∷ []) ≡ 4 ∷ 5 ∷ []
lengths = refl

row_by_row : coordinate_at dims (1 ∷ 1 ∷ []) (1 ∷ 1 ∷ []) 7 ≡ pos 1 ∷ pos 4 ∷ []
row_by_row = refl

and_back : position_of dims (1 ∷ 1 ∷ []) (1 ∷ 1 ∷ []) (pos 1 ∷ pos 4 ∷ []) ≡ 7
and_back = refl

corner_is_met : core_meets dims (corners (pos 2 ∷ pos 4 ∷ []) (pos 9 ∷ pos 9 ∷ [])) (1 ∷ 1 ∷ []) ≡ true
corner_is_met = refl

margin_is_not_met : core_meets dims (corners (pos 0 ∷ pos 0 ∷ []) (pos 0 ∷ pos 9 ∷ [])) (1 ∷ 1 ∷ []) ≡ false
margin_is_not_met = refl

-- ---- chunks that have a frame

framed : HasFrame example (1 ∷ 1 ∷ []) (1 ∷ 1 ∷ [])
framed = record { valid = refl; core = refl; each = refl; places = omega arith }

-- a chunk of 2^48 places at the lowest bound
greatest : HasFrame (schema_of (dimension (codes "x") (negsuc 4611686018427387902) (pos 4611686018427387903) 281474976710656 0 ∷ [])) (0 ∷ []) (0 ∷ [])
greatest = record { valid = refl; core = refl; each = refl; places = omega arith }

-- an overlap as large as the chunk at the lowest bound, and at the highest
widest : HasFrame (schema_of (dimension (codes "x") (negsuc 4611686018427387902) (pos 4611686018427387903) 10 10 ∷ [])) (10 ∷ []) (0 ∷ [])
widest = record { valid = refl; core = refl; each = refl; places = omega arith }

last : HasFrame (schema_of (dimension (codes "x") (negsuc 4611686018427387902) (pos 4611686018427387903) 10 10 ∷ [])) (10 ∷ []) (922337203685477580 ∷ [])
last = record { valid = refl; core = refl; each = refl; places = omega arith }

-- ---- a chunk: a cell of its core, and a copy of a neighbour's

abbrev chunk : Chunk
chunk = record { at = record { items = 1 ∷ 1 ∷ [] }; positions = 1 ∷ 7 ∷ []; cells = Full (Null ∷ []) ∷ Full (Int (pos 5) ∷ []) ∷ [] }

witness : IsChunk example (1 ∷ 1 ∷ []) chunk
witness = record {
  framed = framed;
  each = refl;
  rising = ((omega arith, tt), (tt, tt));
  in_frame = (omega arith, (omega arith, tt));
  in_bounds = (refl, (refl, tt));
  in_core = refl;
  cells = ((refl, tt), ((refl, tt), tt));
}
