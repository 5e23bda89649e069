-- Cells of two arrays that are put into a chunk by their places.
use Rattle.std.proofs.Common.{◌≡◌, ℕ, ◌+◌, ◌<◌, ◌≤◌, ◌⊎◌, List, [], ◌∷◌, ◌++◌, append-nil, append_assoc, length, get_or, drop, refl, sym, ap, ◌∙◌, subst}
use Rattle.std.proofs.lemmas.List.{drop_all, drop_more}
use Rattle.std.specs.List.{AllByRecursion}
use Rattle.cell_values.specs.declared.datum.Row.{Row}
use Rattle.array_rows.specs.Rows.{IsRising, put_all}
use Rattle.array_geom.specs.declared.chunk.Chunk.{Chunk}
use Rattle.array_geom.specs.declared.grid.Grid.{Grid}
use Rattle.array_geom.specs.Inner.Ranges.{IsGrid}
use Rattle.area_cells.specs.declared.finding.Found.{Found}
use Rattle.area_cells.specs.Found.{IsFound, found_row, found_rows}
use Rattle.area_cells.specs.Inner.Filled.{IsFilled}
use Rattle.area_cells.proofs.FoundLaws.{are_merged, begun, goes_left, goes_on, goes_past, goes_right, rows_append}
use Rattle.shape_exec.specs.Inner.Merged.{Holds, MergesOn, Puts, PutsRest}
use Rattle.shape_exec.proofs.FoundChunks.{none_filled}

-- ---- one cell

abbrev pub Fills : Grid → Found → Chunk → Chunk → Type 0
Fills grid f old new = (rows : List Row) → IsFilled grid.low.items grid.lengths.items rows old → IsFilled grid.low.items grid.lengths.items (rows ++ found_row grid f ∷ []) new

one_held : (grid : Grid) (f : Found) (old new : Chunk) (made : List Found) → Fills grid f old new → Holds grid made old → Holds grid (made ++ f ∷ []) new
one_held grid f old new made fills h =
    subst (λ (rows : List Row). IsFilled grid.low.items grid.lengths.items rows new) (sym (rows_append grid made (f ∷ []))) (fills (found_rows grid made) h)

module _ (grid : Grid) (left right : List Found) (old new : Chunk) (i j : ℕ) (f g : Found) (is : IsGrid grid) (all_left : AllByRecursion (IsFound grid) left) (all_right : AllByRecursion (IsFound grid) right)
    (in_left : i < length left) (in_right : j < length right) (e : f ≡ get_or left i f) (h : g ≡ get_or right j g) where
  pub put_left : f.position < g.position → Fills grid f old new → Puts grid left right old i j new (i + 1) j
  put_left less fills = λ made held. record {
    more = made ++ f ∷ [];
    holds = one_held grid f old new made fills held;
    goes = goes_left grid left right made (made ++ f ∷ []) i j f g is all_left all_right in_left in_right e h less refl;
  }

  pub put_right : g.position < f.position → Fills grid g old new → Puts grid left right old i j new i (j + 1)
  put_right less fills = λ made held. record {
    more = made ++ g ∷ [];
    holds = one_held grid g old new made fills held;
    goes = goes_right grid left right made (made ++ g ∷ []) i j f g is all_left all_right in_left in_right e h less refl;
  }

  pub put_neither : f.position ≡ g.position → Puts grid left right old i j old i (j + 1)
  put_neither same = λ made held. record { more = made; holds = held; goes = goes_past grid left right made i j f g in_left in_right e h same }

-- ---- those that are left of one

pub record RestSoFar (grid : Grid) (from made : List Found) (start k : ℕ) (chunk : Chunk) : Type 0 where
  pub more : List Found
  pub holds : Holds grid more chunk
  pub same : more ++ drop k from ≡ made ++ drop start from

pub one_of_rest : (grid : Grid) (from made : List Found) (start k : ℕ) (f : Found) (old new : Chunk) → k < length from → f ≡ get_or from k f → Fills grid f old new → RestSoFar grid from made start k old → RestSoFar grid from made start (k + 1) new
one_of_rest grid from made start k f old new l e fills r = record {
  more = r.more ++ f ∷ [];
  holds = one_held grid f old new r.more fills r.holds;
  same =
      append_assoc r.more (f ∷ []) (drop (k + 1) from) ∙ ap (λ (x : Found). r.more ++ (x ∷ drop (k + 1) from)) e
      ∙ ap (λ (rest : List Found). r.more ++ rest) (sym (drop_more from k f l)) ∙ r.same;
}

pub all_of_rest : (grid : Grid) (from made : List Found) (start k : ℕ) (chunk : Chunk) → length from ≤ k → RestSoFar grid from made start k chunk → Holds grid (made ++ drop start from) chunk
all_of_rest grid from made start k chunk l r =
    subst (λ (found : List Found). Holds grid found chunk) (sym (append-nil r.more) ∙ ap (λ (rest : List Found). r.more ++ rest) (sym (drop_all k from l)) ∙ r.same) r.holds

-- ---- all

pub none_merged : (grid : Grid) (left right : List Found) (chunk : Chunk) → chunk.positions ≡ [] → chunk.cells ≡ [] → MergesOn grid left right [] 0 0 chunk 0 0
none_merged grid left right chunk positions cells = record { more = []; holds = none_filled grid [] chunk positions cells; goes = begun grid left right [] refl }

pub merged_further : (grid : Grid) (left right : List Found) (old new : Chunk) (i j i' j' : ℕ) → Puts grid left right old i j new i' j' → MergesOn grid left right [] 0 0 old i j → MergesOn grid left right [] 0 0 new i' j'
merged_further grid left right old new i j i' j' puts m =
    let next = puts m.more m.holds in
    record { more = next.more; holds = next.holds; goes = goes_on grid left right [] m.more next.more 0 0 i j i' j' m.goes next.goes }

pub all_merged : (grid : Grid) (left right : List Found) (old with_left new : Chunk) (i j : ℕ) → AllByRecursion (IsFound grid) left → AllByRecursion (IsFound grid) right → IsRising (found_rows grid left) → IsRising (found_rows grid right)
    → MergesOn grid left right [] 0 0 old i j → (length left ≤ i) ⊎ (length right ≤ j) → PutsRest grid left i old with_left → PutsRest grid right j with_left new
    → IsFilled grid.low.items grid.lengths.items (put_all (found_rows grid left) (found_rows grid right)) new
all_merged grid left right old with_left new i j all_left all_right rl rr m end puts_left puts_right =
    let made = m.more ++ drop i left in
    let are = are_merged grid left right m.more made (made ++ drop j right) i j all_left all_right rl rr m.goes end refl refl in
    subst (λ (rows : List Row). IsFilled grid.low.items grid.lengths.items rows new) are.rows_are (puts_right made (puts_left m.more m.holds))
