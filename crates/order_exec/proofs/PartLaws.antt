-- Parts made chunk after chunk.
use Rattle.std.proofs.Common.{◌≡◌, ℕ, ◌≤◌, ℤ, IsTrue, List, [], ◌∷◌, ◌++◌, length, sym, ap, ◌∙◌, subst, append_assoc, arith}
use Rattle.std.proofs.lemmas.List.{append-nil, map-append}
use Rattle.std.specs.BTreeMap.{BTreeMap}
use Rattle.std.specs.List.{AllByRecursion}
use Rattle.arrayvec.specs.ArrayVec.{ArrayVec}
use Rattle.cell_values.specs.declared.datum.Row.{Row}
use Rattle.cell_values.specs.declared.schema.Schema.{Schema}
use Rattle.cell_values.specs.Cells.{IsCellOf}
use Rattle.array_rows.specs.Arrays.{AreRowsOf}
use Rattle.array_rows.specs.Boxes.{within}
use Rattle.array_rows.specs.Cellwise.{cell_wise}
use Rattle.array_rows.proofs.RowsLemmas.{within-cell_wise}
use Rattle.array_geom.specs.declared.chunk.Chunk.{Chunk}
use Rattle.array_geom.specs.Geometry.{frame}
use Rattle.array_geom.specs.Link.{IsPart, NumbersRise, chunk_rows, core_rows, numbers}
use Rattle.array_parts.specs.Cores.{HaveCells}
use Rattle.array_parts.specs.Placed.{HasPlaces}
use Rattle.array_parts.proofs.CoreLaws.{cores_are_rows}
use Rattle.logical_plan.specs.declared.parts.Aggregate.{Aggregate}
use Rattle.logical_plan.specs.Ordered.{cumulate_cell, cumulate_rows}
use Rattle.logical_plan.specs.Typing.{are_aggregates_of}
use Rattle.agg_states.specs.Inner.Summary.{Summary}
use Rattle.group_rows.specs.Sets.{sets_by}
use Rattle.group_rows.specs.Taken.{KeepsGroups, cells_kept}
use Rattle.group_rows.proofs.RowLemmas.{all_left, all_right}
use Rattle.group_rows.proofs.TakenLaws.{none_kept}
use Rattle.order_exec.specs.Inner.ByChunk.{GoAlong, by_chunk, rows_of_core}
use Rattle.area_cells.specs.Margins.{no_margins}
use Rattle.order_exec.specs.Inner.Running.{running}
use Rattle.order_exec.specs.Lines.{CanAggregate, LinesRise, line_start}
use Rattle.order_exec.proofs.ByChunkLaws.{own_frame, turn_along, turn_joined, turn_kinds, turn_there}
use Rattle.order_exec.proofs.AlongLaws.{along_left, all_joined, lines_rise, runs_in_turn}

-- what was made of the first chunks, and the states of their cells
pub record PartsSoFar (n : ℕ) (low : ℤ) (gs : List Aggregate) (schema : Schema) (margins : List ℕ) (target : Schema) (none : List ℕ) (chunks left parts : List Chunk)
    (lines : BTreeMap (ArrayVec ℤ) (List Summary)) (cells : ℕ) : Type 0 where
  pub done : List Chunk
  pub all : chunks ≡ done ++ left
  pub states : KeepsGroups gs (sets_by (line_start n low) (by_chunk schema.dimensions margins done)) lines
  pub numbers_of : numbers parts ≡ numbers done
  pub places : AllByRecursion (HasPlaces target none) parts
  pub parts_of : AllByRecursion (IsPart target.dimensions none (cumulate_rows n gs (core_rows schema.dimensions margins chunks))) parts
  pub counted : cells_kept lines.entries ≤ cells

module _ (n : ℕ) (low : ℤ) (gs : List Aggregate) (schema : Schema) (margins : List ℕ) (target : Schema) (none : List ℕ) (chunks : List Chunk) (have : HaveCells schema margins chunks) (rise : NumbersRise (numbers chunks))
    (sized : AllByRecursion (λ k. length k ≡ length schema.dimensions) (numbers chunks)) (typed : IsTrue (are_aggregates_of schema.attributes gs)) (same : target.dimensions ≡ schema.dimensions) (nothing : none ≡ no_margins target.dimensions) where
  abbrev Held : List Chunk → List Chunk → BTreeMap (ArrayVec ℤ) (List Summary) → ℕ → Type 0
  Held = PartsSoFar n low gs schema margins target none chunks

  pub no_parts : (left parts : List Chunk) (lines : BTreeMap (ArrayVec ℤ) (List Summary)) (cells : ℕ) → left ≡ chunks → parts ≡ [] → lines.entries ≡ [] → Held left parts lines cells
  no_parts left parts lines cells e f g = record {
    done = [];
    all = sym e;
    states = none_kept gs (line_start n low) lines g;
    numbers_of = ap numbers f;
    places = subst (AllByRecursion (HasPlaces target none)) (sym f) tt;
    parts_of = subst (AllByRecursion (IsPart target.dimensions none (cumulate_rows n gs (core_rows schema.dimensions margins chunks)))) (sym f) tt;
    counted = let zero = ap cells_kept g in omega (arith, zero);
  }

  -- the chunk that comes next
  module _ (front : List Chunk) (chunk : Chunk) (later : List Chunk) (whole : chunks ≡ front ++ chunk ∷ later) where
    next_held : HaveCells schema margins (front ++ chunk ∷ later)
    next_held = subst (HaveCells schema margins) whole have

    next_own : AreRowsOf schema (chunk_rows schema.dimensions margins chunk)
    next_own = (all_right (λ c. AreRowsOf schema (chunk_rows schema.dimensions margins c)) front (chunk ∷ later) next_held.rows_of).0

    next_sized : (some : List Chunk) → AllByRecursion (λ k. length k ≡ length schema.dimensions) (numbers (some ++ chunk ∷ later)) → length chunk.at.items ≡ length schema.dimensions
    next_sized [] s = s.0
    next_sized (x ∷ some) s = next_sized some s.1

    pub next_cells : HaveCells schema margins (chunk ∷ [])
    next_cells = record {
      placed = record { valid = next_held.placed.valid; each = next_held.placed.each; places = next_held.placed.places; rising = (tt, tt); sized = (next_sized front next_held.placed.sized, tt); all = ((all_right (HasPlaces schema margins) front (chunk ∷ later) next_held.placed.all).0, tt) };
      rows_of = (next_own, tt);
    }

    turn : by_chunk schema.dimensions margins chunks ≡ by_chunk schema.dimensions margins front ++ (rows_of_core schema.dimensions margins chunk ++ by_chunk schema.dimensions margins later)
    turn = ap (by_chunk schema.dimensions margins) whole ∙ turn_joined schema margins front (chunk ∷ later)

    along : GoAlong n (by_chunk schema.dimensions margins chunks)
    along = turn_along schema margins n chunks have.placed.valid sized have.rows_of rise

    pub next_rises : LinesRise (line_start n low) (by_chunk schema.dimensions margins front ++ rows_of_core schema.dimensions margins chunk)
    next_rises =
        lines_rise n low (by_chunk schema.dimensions margins front ++ rows_of_core schema.dimensions margins chunk)
        (along_left n (by_chunk schema.dimensions margins front ++ rows_of_core schema.dimensions margins chunk) (by_chunk schema.dimensions margins later)
        (subst (GoAlong n) (turn ∙ sym (append_assoc (by_chunk schema.dimensions margins front) (rows_of_core schema.dimensions margins chunk) (by_chunk schema.dimensions margins later))) along))

    next_can : CanAggregate gs (by_chunk schema.dimensions margins front ++ rows_of_core schema.dimensions margins chunk)
    next_can = record {
      attributes = schema.attributes;
      typed = typed;
      cells = all_left (λ row. IsCellOf schema.attributes row.cell) (by_chunk schema.dimensions margins front ++ rows_of_core schema.dimensions margins chunk) (by_chunk schema.dimensions margins later)
          (subst (AllByRecursion (λ row. IsCellOf schema.attributes row.cell)) (turn ∙ sym (append_assoc (by_chunk schema.dimensions margins front) (rows_of_core schema.dimensions margins chunk) (by_chunk schema.dimensions margins later)))
          (turn_kinds schema margins chunks have.rows_of));
    }

    next_rows : running (line_start n low) gs (by_chunk schema.dimensions margins front) (rows_of_core schema.dimensions margins chunk)
        ≡ within (frame schema.dimensions (no_margins schema.dimensions) chunk.at.items) (cumulate_rows n gs (core_rows schema.dimensions margins chunks))
    next_rows =
        let all = core_rows schema.dimensions margins chunks in
        runs_in_turn n low all (by_chunk schema.dimensions margins chunks) (cores_are_rows schema margins chunks have).are_rows.rising (turn_there schema margins chunks) along gs (by_chunk schema.dimensions margins front)
        (rows_of_core schema.dimensions margins chunk) (by_chunk schema.dimensions margins later) turn
        ∙ ap (cell_wise (cumulate_cell n gs all)) (sym (own_frame schema margins front chunk later next_held (subst (λ (cs : List Chunk). AllByRecursion (λ k. length k ≡ length schema.dimensions) (numbers cs)) whole sized)
        (subst (λ (cs : List Chunk). NumbersRise (numbers cs)) whole rise) (next_sized front (subst (λ (cs : List Chunk). AllByRecursion (λ k. length k ≡ length schema.dimensions) (numbers cs)) whole sized)) next_own)
        ∙ ap (λ (cs : List Chunk). within (frame schema.dimensions (no_margins schema.dimensions) chunk.at.items) (core_rows schema.dimensions margins cs)) (sym whole))
        ∙ sym (within-cell_wise (frame schema.dimensions (no_margins schema.dimensions) chunk.at.items) (cumulate_cell n gs all) all)

    pub next_part : (made : Chunk) → made.at ≡ chunk.at → HasPlaces target none made
        → chunk_rows target.dimensions none made ≡ running (line_start n low) gs (by_chunk schema.dimensions margins front) (rows_of_core schema.dimensions margins chunk)
        → IsPart target.dimensions none (cumulate_rows n gs (core_rows schema.dimensions margins chunks)) made
    next_part made at placed e = record {
      each = placed.placed.each;
      in_frame = placed.placed.in_frame;
      cells = e ∙ next_rows ∙ (λ i. within (frame (sym same i) (sym (nothing ∙ ap no_margins same) i) (sym at i).items) (cumulate_rows n gs (core_rows schema.dimensions margins chunks)));
    }

  pub one_part : (chunk made : Chunk) (left left' parts parts' : List Chunk) (old new : BTreeMap (ArrayVec ℤ) (List Summary)) (cells cells' : ℕ) → left ≡ chunk ∷ left' → Held left parts old cells → made.at ≡ chunk.at → HasPlaces target none made
      → ((earlier : List Row) → KeepsGroups gs (sets_by (line_start n low) earlier) old → LinesRise (line_start n low) (earlier ++ rows_of_core schema.dimensions margins chunk) → CanAggregate gs (earlier ++ rows_of_core schema.dimensions margins chunk)
      → chunk_rows target.dimensions none made ≡ running (line_start n low) gs earlier (rows_of_core schema.dimensions margins chunk))
      → ((earlier : List Row) → KeepsGroups gs (sets_by (line_start n low) earlier) old → LinesRise (line_start n low) (earlier ++ rows_of_core schema.dimensions margins chunk)
      → KeepsGroups gs (sets_by (line_start n low) (earlier ++ rows_of_core schema.dimensions margins chunk)) new)
      → cells_kept new.entries ≤ cells' → parts' ≡ parts ++ made ∷ [] → Held left' parts' new cells'
  one_part chunk made left left' parts parts' old new cells cells' e h at placed rows states counted f =
      let whole : chunks ≡ h.done ++ chunk ∷ left' = h.all ∙ ap (λ (cs : List Chunk). h.done ++ cs) e in
      let made_of = rows (by_chunk schema.dimensions margins h.done) h.states (next_rises h.done chunk left' whole) (next_can h.done chunk left' whole) in
      let more : by_chunk schema.dimensions margins (h.done ++ chunk ∷ []) ≡ by_chunk schema.dimensions margins h.done ++ rows_of_core schema.dimensions margins chunk =
      turn_joined schema margins h.done (chunk ∷ []) ∙ ap (λ (zs : List Row). by_chunk schema.dimensions margins h.done ++ zs) (append-nil (rows_of_core schema.dimensions margins chunk)) in
      record {
        done = h.done ++ chunk ∷ [];
        all = whole ∙ sym (append_assoc h.done (chunk ∷ []) left');
        states = subst (λ (zs : List Row). KeepsGroups gs (sets_by (line_start n low) zs) new) (sym more) (states (by_chunk schema.dimensions margins h.done) h.states (next_rises h.done chunk left' whole));
        numbers_of = ap numbers f ∙ map-append (λ (c : Chunk). c.at.items) parts (made ∷ []) ∙ (λ i. h.numbers_of i ++ (at i).items ∷ []) ∙ sym (map-append (λ (c : Chunk). c.at.items) h.done (chunk ∷ []));
        places = subst (AllByRecursion (HasPlaces target none)) (sym f) (all_joined (HasPlaces target none) parts (made ∷ []) h.places (placed, tt));
        parts_of = subst (AllByRecursion (IsPart target.dimensions none (cumulate_rows n gs (core_rows schema.dimensions margins chunks)))) (sym f)
            (all_joined (IsPart target.dimensions none (cumulate_rows n gs (core_rows schema.dimensions margins chunks))) parts (made ∷ []) h.parts_of (next_part h.done chunk left' whole made at placed made_of, tt));
        counted = counted;
      }

  pub alone_has_cells : (chunk : Chunk) (left left' parts : List Chunk) (lines : BTreeMap (ArrayVec ℤ) (List Summary)) (cells : ℕ) → left ≡ chunk ∷ left' → Held left parts lines cells → HaveCells schema margins (chunk ∷ [])
  alone_has_cells chunk left left' parts lines cells e h = next_cells h.done chunk left' (h.all ∙ ap (λ (cs : List Chunk). h.done ++ cs) e)

  pub all_numbers : (left parts : List Chunk) (lines : BTreeMap (ArrayVec ℤ) (List Summary)) (cells : ℕ) → left ≡ [] → Held left parts lines cells → numbers parts ≡ numbers chunks
  all_numbers left parts lines cells e h = h.numbers_of ∙ ap numbers (sym (h.all ∙ ap (λ (cs : List Chunk). h.done ++ cs) e ∙ append-nil h.done))
