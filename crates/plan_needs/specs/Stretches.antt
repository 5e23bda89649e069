-- Stretches of places along a dimension. A number beyond 64 bits, which no place within the bounds of a valid schema has, stays at
-- the limit.
use Rattle.std.specs.Prelude.{ℕ, ◌+◌, ◌-◌, ◌*◌, ℤ, pos, ◌+ℤ◌, ◌-ℤ◌, int_lt, unsigned_abs, Bool, if◌then◌else◌}
use Rattle.std.specs.Int.{int_max, int_min, w64, saturate_signed}
use Rattle.cell_values.specs.declared.schema.Dimension.{Dimension}
use Rattle.logical_plan.specs.declared.parts.Reach.{Reach}
use Rattle.plan_needs.specs.declared.stretch.Stretch.{Stretch}

abbrev pub stretch : ℤ → ℤ → Stretch
stretch first last = record { first = first; last = last }

-- all places of a dimension
abbrev pub all_of : Dimension → Stretch
all_of d = stretch d.lo d.hi

-- no place
abbrev pub nothing : Stretch
nothing = stretch (pos 1) (pos 0)

-- the first place comes after the last one
abbrev pub is_empty : Stretch → Bool
is_empty s = int_lt s.last s.first

-- what two stretches share
abbrev pub shared : Stretch → Stretch → Stretch
shared a b = stretch (int_max a.first b.first) (int_min a.last b.last)

-- moved by a number
abbrev pub lifted : Stretch → ℤ → Stretch
lifted s by = stretch (saturate_signed w64 (s.first +ℤ by)) (saturate_signed w64 (s.last +ℤ by))

-- the places of a dimension that the windows round the places of a stretch reach
abbrev pub grown : Dimension → Reach → Stretch → Stretch
grown d r s =
    if is_empty s then s
    else shared (all_of d) (stretch (saturate_signed w64 (s.first -ℤ pos r.before)) (saturate_signed w64 (s.last +ℤ pos r.after)))

-- blocks of a length are numbered from a dimension's low bound on: the first and the last place of one
abbrev pub block_first : ℤ → ℕ → ℤ → ℤ
block_first low size x = saturate_signed w64 (low +ℤ pos (unsigned_abs (x -ℤ low) * size))

abbrev pub block_last : ℤ → ℕ → ℤ → ℤ
block_last low size x = saturate_signed w64 (low +ℤ pos (unsigned_abs (x -ℤ low) * size + (size - 1)))

-- the places of a dimension in the blocks with these numbers
abbrev pub block_places : Dimension → ℕ → Stretch → Stretch
block_places d size s = if is_empty s then s else shared (all_of d) (stretch (block_first d.lo size s.first) (block_last d.lo size s.last))

-- the places whose blocks a stretch has. No number of a block is beyond the dimension's bounds
abbrev pub blocks : Dimension → ℕ → Stretch → Stretch
blocks d size s = block_places d size (shared (all_of d) s)
