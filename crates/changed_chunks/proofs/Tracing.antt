-- Lines of leaves, one behind the other.
use Rattle.std.proofs.Common.{◌≡◌, ◌∙◌, ℕ, zero, suc, ◌+◌, ◌<◌, ◌≤◌, List, [], ◌∷◌, ◌++◌, length, get_or, take, refl, sym, ap, subst, arith, append_assoc}
use Rattle.std.specs.List.{AllByRecursion}
use Rattle.std.proofs.lemmas.List.{append-nil, length-take-le, take_all, take_more}
use Rattle.array_geom.specs.Geometry.{core_meets}
use Rattle.cell_values.specs.declared.schema.Bounds.{Bounds}
use Rattle.cell_values.specs.Schemas.{IsValid}
use Rattle.array_rows.specs.Boxes.{by_pairs}
use Rattle.logical_plan.specs.declared.parts.Leaf.{Leaf}
use Rattle.logical_plan.specs.Leaves.{leaves}
use Rattle.logical_plan.specs.Meaning.{Database}
use Rattle.logical_plan.specs.Query.{Query, built, listed, scanned, filtered, applied, projected, between, subarray}
use Rattle.logical_plan.specs.Query.{sliced, joined, crossed, redimensioned, regridded, windowed, aggregated}
use Rattle.logical_plan.specs.Query.{sorted, ranked, cumulated, transposed, reversed, unpacked, xgridded, merged, concatenated}
use Rattle.logical_plan.specs.Typing.{IsTyped}
use Rattle.chunk_source.specs.Source.{Keeps, Reads, SourceState, version_chunks}
use Rattle.chunk_source.proofs.ReadLemmas.{keeps_on, keeps_still, reads_still}
use Rattle.changed_chunks.specs.declared.traces.asking.Asking.{Asking}
use Rattle.changed_chunks.specs.Inner.Among.{AddsLines, lines_by}
use Rattle.chunk_source.proofs.SufficientLaws.{whole_needs}
use Rattle.plan_needs.specs.Wanted.{whole_need}
use Rattle.changed_chunks.specs.Listed.{chunks_among}
use Rattle.changed_chunks.specs.Traced.{AreLinesOf, asking_in, asking_over, asking_where, askings_over, leaf_line, lines_of, lines_over, plan_askings, plan_lines}

-- ---- all leaves of a typed plan are of valid schemas

abbrev AreValid : List Leaf → Type 0
AreValid = AllByRecursion (λ leaf. IsValid leaf.schema)

both_valid : (xs ys : List Leaf) → AreValid xs → AreValid ys → AreValid (xs ++ ys)
both_valid [] ys a b = b
both_valid (x ∷ xs) ys a b = (a.0, both_valid xs ys a.1 b)

pub valid_leaves : (query : Query) → IsTyped query → AreValid (leaves query)
valid_leaves (built schema e) typed = tt
valid_leaves (listed schema rows) typed = tt
valid_leaves (scanned leaf) typed = (typed, tt)
valid_leaves (filtered source test) typed = valid_leaves source typed.0
valid_leaves (applied source values) typed = valid_leaves source typed.0
valid_leaves (projected source places) typed = valid_leaves source typed.0
valid_leaves (between source area) typed = valid_leaves source typed.0
valid_leaves (subarray source area) typed = valid_leaves source typed.0
valid_leaves (sliced source fixed) typed = valid_leaves source typed.0
valid_leaves (joined left right schema) typed = both_valid (leaves left) (leaves right) (valid_leaves left typed.0) (valid_leaves right typed.1)
valid_leaves (crossed left right pairs schema) typed = both_valid (leaves left) (leaves right) (valid_leaves left typed.0) (valid_leaves right typed.1)
valid_leaves (redimensioned source schema gs) typed = valid_leaves source typed.0
valid_leaves (regridded source sizes gs) typed = valid_leaves source typed.0
valid_leaves (windowed source reach gs) typed = valid_leaves source typed.0
valid_leaves (aggregated source gs places) typed = valid_leaves source typed.0
valid_leaves (sorted source keys schema) typed = valid_leaves source typed.0
valid_leaves (ranked source x dims) typed = valid_leaves source typed.0
valid_leaves (cumulated source gs n) typed = valid_leaves source typed.0
valid_leaves (transposed source) typed = valid_leaves source typed.0
valid_leaves (reversed source) typed = valid_leaves source typed.0
valid_leaves (unpacked source schema) typed = valid_leaves source typed.0
valid_leaves (xgridded source sizes) typed = valid_leaves source typed.0
valid_leaves (merged left right) typed = both_valid (leaves left) (leaves right) (valid_leaves left typed.0) (valid_leaves right typed.1)
valid_leaves (concatenated left right) typed = both_valid (leaves left) (leaves right) (valid_leaves left typed.0) (valid_leaves right typed.1)

-- ---- one more leaf

pub lines_more : (xs : List Leaf) (counts : List Asking) (x : Leaf) (a : Asking) → length counts ≡ length xs → lines_of (xs ++ x ∷ []) (counts ++ a ∷ []) ≡ lines_of xs counts ++ leaf_line x a
lines_more [] [] x a e = append-nil (leaf_line x a)
lines_more [] (b ∷ counts) x a e = absurd (omega (arith, e))
lines_more (y ∷ xs) [] x a e = absurd (omega (arith, e))
lines_more (y ∷ xs) (b ∷ counts) x a e =
    ap (λ (z : List ℕ). leaf_line y b ++ z) (lines_more xs counts x a (omega (arith, e))) ∙ sym (append_assoc (leaf_line y b) (lines_of xs counts) (leaf_line x a))

pub append_each : (counts : List Asking) (xs : List Leaf) (a : Asking) (x : Leaf) → length counts ≡ length xs → length (counts ++ a ∷ []) ≡ length (xs ++ x ∷ [])
append_each [] [] a x e = refl
append_each [] (y ∷ xs) a x e = absurd (omega (arith, e))
append_each (b ∷ counts) [] a x e = absurd (omega (arith, e))
append_each (b ∷ counts) (y ∷ xs) a x e = ap suc (append_each counts xs a x (omega (arith, e)))

-- the line of one leaf
alone : (leaf : Leaf) (asking : Asking) → lines_of (leaf ∷ []) (asking ∷ []) ≡ leaf_line leaf asking
alone leaf asking = append-nil (leaf_line leaf asking)

-- however many chunks are asked for
module _ (asking : Leaf → Bounds → Asking) where
  askings_more : (xs : List Leaf) (ys : List Bounds) (x : Leaf) (y : Bounds) → length ys ≡ length xs → by_pairs asking (xs ++ x ∷ []) (ys ++ y ∷ []) ≡ by_pairs asking xs ys ++ asking x y ∷ []
  askings_more [] [] x y e = refl
  askings_more [] (b ∷ ys) x y e = absurd (omega (arith, e))
  askings_more (a ∷ xs) [] x y e = absurd (omega (arith, e))
  askings_more (a ∷ xs) (b ∷ ys) x y e = ap (λ (z : List Asking). asking a b ∷ z) (askings_more xs ys x y (omega (arith, e)))

  pub askings_each : (xs : List Leaf) (ys : List Bounds) → length ys ≡ length xs → length (by_pairs asking xs ys) ≡ length xs
  askings_each [] [] e = refl
  askings_each [] (b ∷ ys) e = refl
  askings_each (a ∷ xs) [] e = absurd (omega (arith, e))
  askings_each (a ∷ xs) (b ∷ ys) e = ap suc (askings_each xs ys (omega (arith, e)))

  line_added : (leaf : Leaf) (area : Bounds) (before after : List ℕ) (a : Asking) → after ≡ before ++ leaf_line leaf a → a ≡ asking leaf area → after ≡ before ++ lines_by asking (leaf ∷ []) (area ∷ [])
  line_added leaf area before after a is asks = is ∙ (λ i. before ++ leaf_line leaf (asks i)) ∙ ap (λ (z : List ℕ). before ++ z) (sym (alone leaf (asking leaf area)))

  lines_added : (all : List Leaf) (boxes : List Bounds) (leaf : Leaf) (area : Bounds) (before mid after : List ℕ) → length boxes ≡ length all
      → mid ≡ before ++ lines_by asking all boxes → after ≡ mid ++ lines_by asking (leaf ∷ []) (area ∷ []) → after ≡ before ++ lines_by asking (all ++ leaf ∷ []) (boxes ++ area ∷ [])
  lines_added all boxes leaf area before mid after each first last =
      let line : after ≡ mid ++ leaf_line leaf (asking leaf area) = last ∙ ap (λ (z : List ℕ). mid ++ z) (alone leaf (asking leaf area)) in
      let more : lines_by asking (all ++ leaf ∷ []) (boxes ++ area ∷ []) ≡ lines_by asking all boxes ++ leaf_line leaf (asking leaf area)
      = ap (lines_of (all ++ leaf ∷ [])) (askings_more all boxes leaf area each)
      ∙ lines_more all (by_pairs asking all boxes) leaf (asking leaf area) (askings_each all boxes each) in
      line ∙ ap (λ (z : List ℕ). z ++ leaf_line leaf (asking leaf area)) first
      ∙ append_assoc before (lines_by asking all boxes) (leaf_line leaf (asking leaf area))
      ∙ ap (λ (z : List ℕ). before ++ z) (sym more)

pub adds_one : (source : SourceState) (leaf : Leaf) (area : Bounds) (before after : List ℕ) (asking : Asking) → after ≡ before ++ leaf_line leaf asking
    → asking ≡ asking_over source leaf area → ((db : Database) → source.tells db → asking ≡ asking_in db leaf area) → AddsLines source (leaf ∷ []) (area ∷ []) before after
adds_one source leaf area before after asking is over told = record {
  over = line_added (asking_over source) leaf area before after asking is over;
  told = λ db t. line_added (asking_in db) leaf area before after asking is (told db t);
}

pub adds_none : (source : SourceState) (before : List ℕ) → AddsLines source [] [] before before
adds_none source before = record { over = sym (append-nil before); told = λ db t. sym (append-nil before) }

pub adds_more : (source : SourceState) (all : List Leaf) (boxes : List Bounds) (leaf : Leaf) (area : Bounds) (before mid after : List ℕ) → length boxes ≡ length all
    → AddsLines source all boxes before mid → AddsLines source (leaf ∷ []) (area ∷ []) mid after → AddsLines source (all ++ leaf ∷ []) (boxes ++ area ∷ []) before after
adds_more source all boxes leaf area before mid after each a b = record {
  over = lines_added (asking_over source) all boxes leaf area before mid after each a.over b.over;
  told = λ db t. lines_added (asking_in db) all boxes leaf area before mid after each (a.told db t) (b.told db t);
}

-- ---- some first leaves

pub record HasTraced (first now : SourceState) (all : List Leaf) (boxes : List Bounds) (i : ℕ) (before text : List ℕ) : Type 0 where
  pub kept : Keeps first now
  pub damaged : now.damaged ≡ first.damaged
  pub asked : now.asked ≡ first.asked
  pub lines : AddsLines first (take i all) (take i boxes) before text

pub nothing_traced : (first : SourceState) (all : List Leaf) (boxes : List Bounds) (text : List ℕ) → HasTraced first first all boxes 0 text text
nothing_traced first all boxes text = record { kept = keeps_still first; damaged = refl; asked = refl; lines = adds_none first text }

-- what is kept has the same lines
pub asking_still : (a b : SourceState) → Keeps a b → asking_over b ≡ asking_over a
asking_still a b k =
    λ i leaf area. asking_where (core_meets leaf.schema.dimensions area) (chunks_among leaf.schema.dimensions (version_chunks (k.chunks i) leaf.name leaf.version))

adds_before : (a b : SourceState) (all : List Leaf) (boxes : List Bounds) (before after : List ℕ) → Keeps a b → AddsLines b all boxes before after → AddsLines a all boxes before after
adds_before a b all boxes before after k adds = record {
  over = adds.over ∙ ap (λ (asking : Leaf → Bounds → Asking). before ++ lines_by asking all boxes) (asking_still a b k);
  told = λ db t. adds.told db ((k.tells db).1 t);
}

pub traced_more : (first before now : SourceState) (all : List Leaf) (boxes : List Bounds) (i : ℕ) (leaf : Leaf) (area : Bounds) (start text longer : List ℕ) → length boxes ≡ length all → i < length all
    → leaf ≡ get_or all i leaf → area ≡ get_or boxes i area → HasTraced first before all boxes i start text → AddsLines before (leaf ∷ []) (area ∷ []) text longer
    → now.asked ≡ before.asked → Keeps before now → now.damaged ≡ before.damaged → HasTraced first now all boxes (i + 1) start longer
traced_more first before now all boxes i leaf area start text longer each lt is box h line asked kept damaged =
    let leaves_are : take (i + 1) all ≡ take i all ++ leaf ∷ [] = take_more all i leaf lt ∙ ap (λ (x : Leaf). take i all ++ x ∷ []) (sym is) in
    let boxes_are : take (i + 1) boxes ≡ take i boxes ++ area ∷ [] = take_more boxes i area (omega (arith, each, lt)) ∙ ap (λ (x : Bounds). take i boxes ++ x ∷ []) (sym box) in
    let many : length (take i boxes) ≡ length (take i all) = length-take-le i boxes (omega (arith, each, lt)) ∙ sym (length-take-le i all (omega (arith, lt))) in
    record {
      kept = keeps_on first before now h.kept kept;
      damaged = damaged ∙ h.damaged;
      asked = asked ∙ h.asked;
      lines = subst (λ (xs : List Leaf). AddsLines first xs (take (i + 1) boxes) start longer) (sym leaves_are)
          (subst (λ (ys : List Bounds). AddsLines first (take i all ++ leaf ∷ []) ys start longer) (sym boxes_are)
          (adds_more first (take i all) (take i boxes) leaf area start text longer many h.lines
          (adds_before first before (leaf ∷ []) (area ∷ []) text longer h.kept line)));
    }

-- the loop has come to its end
pub all_traced : (first now : SourceState) (all : List Leaf) (boxes : List Bounds) (i : ℕ) (before text : List ℕ) → length boxes ≡ length all → length all ≤ i
    → HasTraced first now all boxes i before text → AddsLines first all boxes before text
all_traced first now all boxes i before text each le h =
    subst (λ (xs : List Leaf). AddsLines first xs boxes before text) (take_all i all le)
    (subst (λ (ys : List Bounds). AddsLines first (take i all) ys before text) (take_all i boxes (omega (arith, each, le))) h.lines)

pub at_place : (P : Leaf → Type 0) (all : List Leaf) (i : ℕ) (leaf : Leaf) → i < length all → leaf ≡ get_or all i leaf → AllByRecursion P all → P leaf
at_place P all i leaf lt is holds = subst P (sym is) (found all i lt holds)
  where
    found : (xs : List Leaf) (n : ℕ) → n < length xs → AllByRecursion P xs → P (get_or xs n leaf)
    found [] n lt holds = absurd (omega (arith, lt))
    found (x ∷ xs) zero lt holds = holds.0
    found (x ∷ xs) (suc n) lt holds = found xs n (omega (arith, lt)) holds.1

pub all_read : (first now : SourceState) (all : List Leaf) → Keeps first now → AllByRecursion (Reads first) all → AllByRecursion (Reads now) all
all_read first now [] k reads = tt
all_read first now (leaf ∷ all) k reads = (reads_still first now leaf k reads.0, all_read first now all k reads.1)

-- ---- the lines of a plan

module _ (source : SourceState) (query : Query) (all : List Leaf) (boxes : List Bounds) (start text : List ℕ) (none : start ≡ []) (these : all ≡ leaves query) (needs : boxes ≡ whole_need query)
    (adds : AddsLines source all boxes start text) where
  alone_by : (asking : Leaf → Bounds → Asking) → text ≡ start ++ lines_by asking all boxes → text ≡ lines_by asking (leaves query) (whole_need query)
  alone_by asking is = is ∙ (λ i. none i ++ lines_by asking (these i) (needs i))

  pub over_alone : text ≡ lines_over source query
  over_alone = alone_by (asking_over source) adds.over

  pub told_alone : (db : Database) → source.tells db → text ≡ plan_lines db query
  told_alone db t = alone_by (asking_in db) (adds.told db t)

pub plan_askings_each : (db : Database) (query : Query) → length (plan_askings db query) ≡ length (leaves query)
plan_askings_each db query = askings_each (asking_in db) (leaves query) (whole_need query) (whole_needs query)

pub plan_lines_are : (db : Database) (query : Query) → AreLinesOf (leaves query) (plan_lines db query)
plan_lines_are db query = (plan_askings db query, plan_askings_each db query, refl)

pub askings_over_each : (source : SourceState) (query : Query) → length (askings_over source query) ≡ length (leaves query)
askings_over_each source query = askings_each (asking_over source) (leaves query) (whole_need query) (whole_needs query)

pub lines_over_are : (source : SourceState) (query : Query) → AreLinesOf (leaves query) (lines_over source query)
lines_over_are source query = (askings_over source query, askings_over_each source query, refl)

-- they are the same over what is kept
pub lines_still : (a b : SourceState) (query : Query) → Keeps a b → lines_over b query ≡ lines_over a query
lines_still a b query k = ap (λ (asking : Leaf → Bounds → Asking). lines_by asking (leaves query) (whole_need query)) (asking_still a b k)
