-- Page 0: its text and format, and the two root slots.
use Rattle.std.specs.Prelude.{ℕ, ◌+◌, Bool, ◌&&◌, ◌||◌, List, length, slice_index, Option, Some, None, nat_lt, nat_le, ◌==◌, if◌then◌else◌}
use Rattle.page_chain.specs.Places.{number_at, gate_of, body_of}
use Rattle.page_chain.specs.declared.slots.layout.sides.Side.{Side}
use Rattle.page_chain.specs.declared.slots.layout.sides.Side.TheVariants.{A, B}
use Rattle.page_chain.specs.declared.slots.layout.sides.Format.TheVariants.{One, Two}
use Rattle.page_chain.specs.declared.slots.layout.roots.Root.{Root}
use Rattle.page_chain.specs.declared.slots.layout.roots.OpenRoot.{OpenRoot}

-- the text AFLSTORE as the number of its eight bytes, the low byte first
abbrev pub text_number : ℕ
text_number = 0x45524F54534C4641

-- Page 0 is whole, and begins with the text and the number of a format.
abbrev pub has_front : List ℕ → Bool
has_front file = nat_le 4096 (length file) && (number_at 8 0 file == text_number && (number_at 4 8 file == 1 || number_at 4 8 file == 2))

-- the root whose body begins at a place
abbrev pub root_at : ℕ → List ℕ → Root
root_at at file = record {
  sequence = number_at 8 at file;
  length = number_at 8 (at + 8) file;
  first = number_at 4 (at + 16) file;
  log = number_at 4 (at + 20) file;
}

-- What a root slot with this gate and this body stands for: 1 is open in format 1, which has no log page, 2 is open in format 2, and
-- any other byte is closed.
abbrev pub opened : Side → ℕ → Root → Option OpenRoot
opened side gate root = if gate == 1 then Some (record { side = side; format = One; root = record root { log = 0 } })
    else (if gate == 2 then Some (record { side = side; format = Two; root = root }) else None)

abbrev pub slot_in : Side → List ℕ → Option OpenRoot
slot_in side file = opened side (slice_index file (gate_of side)) (root_at (body_of side) file)

-- The open one of two, and where both are open the one with the greater sequence. Equal sequences are none.
abbrev pub newer : Option OpenRoot → Option OpenRoot → Option OpenRoot
newer None b = b
newer (Some a) None = Some a
newer (Some a) (Some b) = if nat_lt b.root.sequence a.root.sequence then Some a else (if nat_lt a.root.sequence b.root.sequence then Some b else None)

-- the current root slot of a file
abbrev pub current : List ℕ → Option OpenRoot
current file = if has_front file then newer (slot_in A file) (slot_in B file) else None
