-- A worked insert: one cell put into an array of four, whose chunks the source lists and whose database it tells.
use Rattle.std.proofs.Common.{◌≡◌, ℕ, pos, List, [], ◌∷◌, Some, None, Ok, refl, inr, arith}
use Rattle.std.specs.Prelude.{codes}
use Rattle.arrayvec.specs.ArrayVec.{ArrayVec}
use Rattle.cell_values.specs.declared.datum.Cell.TheVariants.{Full}
use Rattle.cell_values.specs.declared.datum.Datum.TheVariants.{Bad}
use Rattle.cell_values.specs.declared.datum.FaultKind.TheVariants.{Overflow}
use Rattle.cell_values.specs.declared.schema.Dimension.{Dimension}
use Rattle.array_rows.specs.Arrays.{AreRowsOf}
use Rattle.array_rows.specs.Rows.{placed}
use Rattle.logical_plan.specs.declared.parts.Leaf.{Leaf}
use Rattle.logical_plan.specs.Typing.{AreSound}
use Rattle.plan_changes.specs.declared.change.Change.{Change}
use Rattle.plan_changes.specs.declared.change.Change.TheVariants.{Insert}
use Rattle.plan_changes.specs.Databases.{rows_of}
use Rattle.plan_changes.specs.Stored.{IsDatabase}
use Rattle.chunk_source.specs.Source.{SourceState}
use Rattle.commit_pages.specs.Inner.Examples.{schema, cell_at, stored, insert_at, rows_at}
use Rattle.commit_pages.proofs.Sharing.{four_rows}
use Rattle.commit_pages.specs.Inner.Example.{four, changed}
use Rattle.changed_chunks.specs.Changing.{CanChange, IsToldOf, asked_for, asked_of_all}
use Rattle.changed_chunks.specs.Wanted.{target_wanted}

abbrev source : SourceState
source = record {
  stored = λ name version. Some (schema 0);
  chunks = λ name version. record { items = 0 ∷ [] } ∷ record { items = 1 ∷ [] } ∷ [];
  tells = λ db. db ≡ rows_of (stored 0);
  asked = [];
  damaged = None;
  faults = 0;
}

abbrev target : Leaf
target = record { name = codes "A"; version = 1; schema = schema 0 }

sound : AreSound (schema 0) four
sound = (refl, (refl, (refl, (refl, tt))))

one_row : AreRowsOf (schema 0) (cell_at 2 ∷ [])
one_row = record { valid = refl; are_rows = record { rising = (tt, tt); in_bounds = (refl, tt) }; kinds = ((refl, tt), tt) }

database : IsDatabase (stored 0)
database = record {
  names = record {
    count = omega arith;
    rising = tt;
    each = (
      record {
        name = refl;
        schema = refl;
        named = record { attributes = (refl, tt); dimensions = (refl, tt) };
        next = (omega arith, omega arith);
        versions = (omega arith, omega arith, tt);
      },
      tt,
    );
  };
  rows = (((four_rows, sound), tt), tt);
}

can : CanChange source (insert_at 0 2) target
can = (record { computed = record { typed = (refl, one_row, (refl, tt)); reads = tt }; valid = refl; fits = (None, refl) }, inr refl, refl)

told : IsToldOf source (insert_at 0 2) target (stored 0)
told = record { database = database; tells = refl; newest = (refl, refl) }

-- the plan reads no array, so the target has the number 0. The frame of the second chunk alone holds the cell that is put in
asked : asked_for (stored 0) source (insert_at 0 2) target (Ok changed) ≡ record { leaf = 0; at = record { items = 1 ∷ [] } } ∷ []
asked = refl

-- a cell with a fault at the same place
abbrev faulty : Change
faulty = Insert (codes "A") (schema 0) (rows_at 0 (placed (pos 2 ∷ []) (Full (Bad Overflow ∷ [])) ∷ []))

-- nothing of its target may be asked for, whether the call fails or not
none_asked : asked_of_all (stored 0) source faulty target ≡ []
none_asked = refl

-- ---- `[i=0:5,2,1]`, whose three chunks are stored

abbrev along : List Dimension
along = record { name = codes "i"; lo = pos 0; hi = pos 5; chunk = 2; overlap = 1 } ∷ []

abbrev number_at : ℕ → ArrayVec ℕ
number_at k = record { items = k ∷ [] }

abbrev three : List (ArrayVec ℕ)
three = number_at 0 ∷ number_at 1 ∷ number_at 2 ∷ []

-- the frames -1 to 2 and 1 to 4 hold a cell that is put in; together they meet all three cores
all_wanted : target_wanted along (cell_at 0 ∷ cell_at 1 ∷ []) three ≡ three
all_wanted = refl

-- the frame -1 to 2 alone
two_wanted : target_wanted along (cell_at 0 ∷ []) three ≡ number_at 0 ∷ number_at 1 ∷ []
two_wanted = refl

none_wanted : target_wanted along [] three ≡ []
none_wanted = refl
