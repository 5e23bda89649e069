use Rattle.std.proofs.Common.{ℕ, ◌≤◌, ◌^◌, length, refl, ap, sym, ◌∙◌, subst}
use Rattle.array_geom.specs.Link.{AreChunksOf}
use Rattle.array_geom.specs.Geometry.{frame_lengths, volume}
use Rattle.arrayvec.specs.ArrayVec.{ArrayVec}
use Rattle.chunk_cells.proofs.assembly.arrays.assemble.Goals as goal

pub returns-clause-array : goal.returns-clause-array
returns-clause-array c =
    let dims = c.args.schema.now.dimensions in
    let copied = c.copy_numbers.ensures in
    let each = ap (λ (m : ArrayVec ℕ). length m.items) copied ∙ c.requires.margins in record {
      schema = c.in_ok-copy.ensures;
      valid = c.requires.rows.valid;
      margins = each;
      cells = record {
        whole = refl;
        rows_of = c.requires.rows;
        each = each;
        places = subst (λ (m : ArrayVec ℕ). volume (frame_lengths dims m.items) ≤ 2 ^ 48) (sym copied) c.requires.places;
        chunks = subst (λ (m : ArrayVec ℕ). AreChunksOf dims m.items c.args.rows.now c.in_ok-chunks_of.field-0) (sym copied) c.in_ok-chunks_of.ensures;
      };
    }
