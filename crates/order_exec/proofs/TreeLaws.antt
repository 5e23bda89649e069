-- Lines put into a tree by where they begin.
use Rattle.std.proofs.Common.{◌≡◌, ℕ, zero, suc, ◌+◌, ◌<◌, ◌≤◌, ℤ, Bool, true, false, cond, List, [], ◌∷◌, ◌++◌, length, get_or, take, Some, None, refl, sym, ap, ◌∙◌, subst, arith}
use Rattle.std.proofs.lemmas.List.{take_more}
use Rattle.std.specs.BTreeMap as tree
use Rattle.std.specs.BTreeMap.{BTreeMap, Updates, insert_entry}
use Rattle.std.specs.List.{AllByRecursion}
use Rattle.std.specs.Ordering.{is_eq}
use Rattle.std.specs.declared.cmp.Ordering.{Ordering}
use Rattle.std.specs.declared.cmp.Ordering.TheVariants.{Less, Equal, Greater}
use Rattle.arrayvec.specs.ArrayVec.{ArrayVec}
use Rattle.array_rows.specs.Rows.{Coordinate, row_major}
use Rattle.array_rows.proofs.RowsLemmas.{row_major_exact}
use Rattle.array_geom.specs.declared.chunk.Chunk.{Chunk}
use Rattle.array_parts.specs.Cores.{HaveCells}
use Rattle.chunk_cells.proofs.MergeLaws.{put_all-none}
use Rattle.area_cells.proofs.CountLaws.{one_chunk}
use Rattle.cell_values.specs.declared.schema.Schema.{Schema}
use Rattle.logical_plan.specs.declared.parts.Aggregate.{Aggregate}
use Rattle.agg_states.specs.Inner.Summary.{Summary}
use Rattle.group_rows.specs.declared.rows.groups.Group.{Group}
use Rattle.group_rows.specs.Counts.{cells_in, cells_of}
use Rattle.group_rows.specs.Grouped.{AreGroupsOf, AreInOrder, IsGroupOf, states_at}
use Rattle.group_rows.specs.Sets.{Sets}
use Rattle.group_rows.specs.Taken.{KeepsGroups, by_coordinate, cells_kept}
use Rattle.group_rows.proofs.TakenLaws.{kept_insert}
use Rattle.order_exec.specs.Inner.ByChunk.{rows_of_core}
use Rattle.order_exec.proofs.ByChunkLaws.{one_rises}

-- ---- the states at a coordinate

states_joined : (front : List Group) (line : Group) (c : Coordinate) → states_at front c ≡ None → states_at (front ++ line ∷ []) c ≡ cond (is_eq (row_major line.at.items c)) (Some line.states) None
states_joined [] line c e = refl
states_joined (g ∷ front) line c e = cases (is_eq (row_major g.at.items c)) e (states_joined front line c)
  where
    cases : (b : Bool) → cond b (Some g.states) (states_at front c) ≡ None → (states_at front c ≡ None → states_at (front ++ line ∷ []) c ≡ cond (is_eq (row_major line.at.items c)) (Some line.states) None)
        → cond b (Some g.states) (states_at (front ++ line ∷ []) c) ≡ cond (is_eq (row_major line.at.items c)) (Some line.states) None
    cases true f ih = cc
    cases false f ih = ih f

none_before : (front : List Group) (c : Coordinate) → AllByRecursion (λ g. row_major g.at.items c ≡ Less) front → states_at front c ≡ None
none_before [] c h = refl
none_before (g ∷ front) c h = ap (λ (o : Ordering). cond (is_eq o) (Some g.states) (states_at front c)) h.0 ∙ none_before front c h.1

other_line : (front : List Group) (line : Group) (c : Coordinate) → is_eq (row_major line.at.items c) ≡ false → states_at (front ++ line ∷ []) c ≡ states_at front c
other_line [] line c e = ap (λ (b : Bool). cond b (Some line.states) None) e
other_line (g ∷ front) line c e = ap (cond (is_eq (row_major g.at.items c)) (Some g.states)) (other_line front line c e)

-- a line behind the others
pub line_more : (front : List Group) (line : Group) (c : Coordinate) → AllByRecursion (λ g. row_major g.at.items line.at.items ≡ Less) front
    → states_at (front ++ line ∷ []) c ≡ cond (is_eq (row_major line.at.items c)) (Some line.states) (states_at front c)
line_more front line c h = cases (row_major line.at.items c) refl
  where
    cases : (o : Ordering) → row_major line.at.items c ≡ o → states_at (front ++ line ∷ []) c ≡ cond (is_eq o) (Some line.states) (states_at front c)
    cases Less e = other_line front line c (ap is_eq e)
    cases Greater e = other_line front line c (ap is_eq e)
    cases Equal e =
        let same : line.at.items ≡ c = row_major_exact line.at.items c e in
        states_joined front line c (none_before front c (subst (λ (d : Coordinate). AllByRecursion (λ g. row_major g.at.items d ≡ Less) front) same h))
        ∙ ap (λ (o : Ordering). cond (is_eq o) (Some line.states) None) e

-- ---- the lines up to a place

before_place : (i : ℕ) (lines : List Group) (line : Group) → AreInOrder lines → i < length lines → line ≡ get_or lines i line → AllByRecursion (λ g. row_major g.at.items line.at.items ≡ Less) (take i lines)
before_place i [] line o l e = absurd (omega (arith, l))
before_place zero (g ∷ lines) line o l e = tt
before_place (suc i) (g ∷ lines) line o l e = (there i lines o.0 (omega (arith, l)) e, before_place i lines line o.1 (omega (arith, l)) e)
  where
    there : (i : ℕ) (some : List Group) → AllByRecursion (λ later. row_major g.at.items later.at.items ≡ Less) some → i < length some → line ≡ get_or some i line → row_major g.at.items line.at.items ≡ Less
    there i [] h l e = absurd (omega (arith, l))
    there zero (x ∷ some) h l e = ap (λ (y : Group). row_major g.at.items y.at.items) e ∙ h.0
    there (suc i) (x ∷ some) h l e = there i some h.1 (omega (arith, l)) e

cells_more : (front : List Group) (line : Group) → cells_in (front ++ line ∷ []) ≡ cells_in front + cells_of line.states
cells_more [] line = let zero : cells_of line.states + 0 ≡ 0 + cells_of line.states = omega arith in zero
cells_more (g ∷ front) line = let ih = cells_more front line in omega (arith, ih)

-- the tree has the states of the first lines, and nothing else
abbrev pub Found : List Group → ℕ → BTreeMap (ArrayVec ℤ) (List Summary) → Type 0
Found lines i kept = ((key : ArrayVec ℤ) → tree.get by_coordinate kept key ≡ states_at (take i lines) key.items) × (cells_kept kept.entries ≤ cells_in (take i lines))

module _ (lines : List Group) (order : AreInOrder lines) where
  pub one_found : (i : ℕ) (line : Group) (key : ArrayVec ℤ) (states : List Summary) (old new : BTreeMap (ArrayVec ℤ) (List Summary)) → i < length lines → line ≡ get_or lines i line → key ≡ line.at → states ≡ line.states
      → Updates by_coordinate old new key (Some states) → new.entries ≡ insert_entry by_coordinate old.entries key states → Found lines i old → Found lines (i + 1) new
  one_found i line key states old new l e k s u entries h =
      let more : take (i + 1) lines ≡ take i lines ++ line ∷ [] = take_more lines i line l ∙ ap (λ (x : Group). take i lines ++ x ∷ []) (sym e) in
      let kept = kept_insert old.entries key states in
      let sum = cells_more (take i lines) line in
      let all = ap cells_in more in
      let own = ap cells_of s in
      let cells = h.1 in
      let same = ap cells_kept entries in (
        λ q.
            u.0 q
            ∙ (λ j. cond (is_eq (row_major (k j).items q.items)) (Some (s j)) (h.0 q j))
            ∙ sym (line_more (take i lines) line q.items (before_place i lines line order l e))
            ∙ ap (λ (some : List Group). states_at some q.items) (sym more),
        omega (arith, kept, sum, all, own, cells, same),
      )

pub keeps_found : (gs : List Aggregate) (sets : Sets) (lines : List Group) (kept : BTreeMap (ArrayVec ℤ) (List Summary)) → ((key : ArrayVec ℤ) → tree.get by_coordinate kept key ≡ states_at lines key.items) → AreGroupsOf gs sets lines → KeepsGroups gs sets kept
keeps_found gs sets lines kept found are key = subst (IsGroupOf gs (sets key.items)) (sym (found key)) (are.each key.items)

-- ---- how many cells

pub few_in_core : (schema : Schema) (margins : List ℕ) (chunk : Chunk) → HaveCells schema margins (chunk ∷ []) → length (rows_of_core schema.dimensions margins chunk) ≤ length chunk.cells
few_in_core schema margins chunk h =
    let few = one_chunk schema.dimensions margins chunk [] in
    let same = ap length (put_all-none (rows_of_core schema.dimensions margins chunk) (one_rises schema margins chunk h)) in
    omega (arith, few, same)
