-- What is computed of plans over a source.
use Rattle.std.proofs.Common.{◌≡◌, ℕ, ◌+◌, ◌<◌, ◌≤◌, suc, ◌++◌, List, [], ◌∷◌, drop, length, map, Ok, Err, Result, refl, sym, ap, ◌∙◌, subst, append_assoc, length-append, arith}
use Rattle.std.specs.Prelude.{IfOk, OnErr, OnOk, slice_index_or}
use Rattle.std.specs.List.{AllByRecursion}
use Rattle.std.proofs.lemmas.List.{append-nil, drop-drop, drop_more, length-drop}
use Rattle.arrayvec.specs.ArrayVec.{ArrayVec}
use Rattle.cell_values.specs.declared.memory.Memory.{Memory}
use Rattle.cell_values.specs.declared.datum.Row.{Row}
use Rattle.cell_values.specs.declared.schema.Bounds.{Bounds}
use Rattle.cell_values.specs.declared.schema.Schema.{Schema}
use Rattle.array_rows.specs.Arrays.{AreRowsOf}
use Rattle.array_geom.specs.declared.chunk.ChunkedArray.{ChunkedArray}
use Rattle.array_geom.specs.Link.{Is}
use Rattle.array_parts.proofs.CoreLaws.{arrays_have_cells}
use Rattle.array_parts.proofs.PlaceRows.{valid_chunks_have_cells}
use Rattle.expr_nulls.specs.Expr.{Expr}
use Rattle.logical_plan.specs.declared.parts.Leaf.{Leaf}
use Rattle.logical_plan.specs.Leaves.{leaves}
use Rattle.logical_plan.specs.Meaning.{Database, meaning, version_rows, whole, built_rows}
use Rattle.logical_plan.specs.PlanSchema.{schema_of}
use Rattle.logical_plan.specs.Query.{Query, built, listed, scanned, filtered, applied, projected, between, subarray}
use Rattle.logical_plan.specs.Query.{sliced, joined, crossed, redimensioned, regridded, windowed, aggregated}
use Rattle.logical_plan.specs.Query.{sorted, ranked, cumulated, transposed, reversed, unpacked, xgridded, merged, concatenated}
use Rattle.logical_plan.specs.Typing.{IsTyped}
use Rattle.logical_plan.proofs.ArrayLaws.{typed_arrays}
use Rattle.plan_needs.specs.Wanted.{wanted_of}
use Rattle.chunk_source.specs.declared.sources.asked.Asked.{Asked}
use Rattle.chunk_source.specs.Source.{SourceState, AsksFront, HasArray, Keeps, Reads, asks, version_chunks, listed as chunks_listed}
use Rattle.chunk_source.specs.declared.reading.fault.ExecFault.{ExecFault}
use Rattle.chunk_source.proofs.ReadLemmas.{asked_all, asked_none, listed_still, on_err, reads_still}
use Rattle.chunk_source.specs.Known.{IsPartIn, known_for}
use Rattle.chunk_source.specs.Read.{IsRead}
use Rattle.chunk_source.specs.Numbered.{HoldsAll, known_of_leaves, numbered}
use Rattle.chunk_source.proofs.NumberedLaws.{holds_parts}
use Rattle.chunk_exec.specs.Computed.{CanCompute, IsComputed, IsGiven, asked_in_boxes}
use Rattle.chunk_exec.specs.Inner.Operated.{sources, IsResultOf, operated}
use Rattle.chunk_exec.proofs.SourceLaws.{leaves_of_one, leaves_of_two, typed_sources}

-- ---- one call after another

all_reads_still : (old new : SourceState) (all : List Leaf) → Keeps old new → AllByRecursion (Reads old) all → AllByRecursion (Reads new) all
all_reads_still old new [] k reads = tt
all_reads_still old new (leaf ∷ all) k reads = (reads_still old new leaf k reads.0, all_reads_still old new all k reads.1)

all_right : {A : Type 0} (P : A → Type 0) (xs ys : List A) → AllByRecursion P (xs ++ ys) → AllByRecursion P ys
all_right P [] ys a = a
all_right P (x ∷ xs) ys a = all_right P xs ys a.1

-- ---- what is asked for

asked_still : (old new : SourceState) (first : ℕ) (all : List Leaf) (boxes : List Bounds) → Keeps old new → asked_in_boxes new first all boxes ≡ asked_in_boxes old first all boxes
asked_still old new first [] boxes k = refl
asked_still old new first (leaf ∷ all) [] k = refl
asked_still old new first (leaf ∷ all) (box ∷ boxes) k =
    ap (λ (chunks : List (ArrayVec ℕ)). map (asks first) (wanted_of leaf.schema.dimensions box chunks) ++ asked_in_boxes new (first + 1) all boxes) (listed_still old new leaf k)
    ∙ ap (λ (z : List Asked). map (asks first) (wanted_of leaf.schema.dimensions box (chunks_listed old leaf)) ++ z) (asked_still old new (first + 1) all boxes k)

asked_both : (source : SourceState) (first : ℕ) (left right : List Leaf) (boxes : List Bounds) → length left ≤ length boxes
    → asked_in_boxes source first (left ++ right) boxes ≡ asked_in_boxes source first left boxes ++ asked_in_boxes source (first + length left) right (drop (length left) boxes)
asked_both source first [] right boxes l = let e : first ≡ first + 0 = omega arith in ap (λ n. asked_in_boxes source n right boxes) e
asked_both source first (leaf ∷ left) right [] l = absurd (omega (arith, l))
asked_both source first (leaf ∷ left) right (box ∷ boxes) l =
    let here = map (asks first) (wanted_of leaf.schema.dimensions box (chunks_listed source leaf)) in
    let e : first + 1 + length left ≡ first + suc (length left) = omega arith in
    ap (λ (z : List Asked). here ++ z) (asked_both source (first + 1) left right boxes (omega (arith, l)))
    ∙ ap (λ n. here ++ (asked_in_boxes source (first + 1) left boxes ++ asked_in_boxes source n right (drop (length left) boxes))) e
    ∙ sym (append_assoc here (asked_in_boxes source (first + 1) left boxes) (asked_in_boxes source (first + suc (length left)) right (drop (length left) boxes)))

-- the numbers of later leaves, and their boxes, go on behind those of the earlier ones
asked_of_both : (source : SourceState) (first : ℕ) (left right : List Leaf) (boxes : List Bounds) → first + length left ≤ length boxes
    → asked_in_boxes source first (left ++ right) (drop first boxes) ≡ asked_in_boxes source first left (drop first boxes) ++ asked_in_boxes source (first + length left) right (drop (first + length left) boxes)
asked_of_both source first left right boxes l =
    asked_both source first left right (drop first boxes) (omega (arith, l, length-drop first boxes))
    ∙ ap (λ (z : List Bounds). asked_in_boxes source first left (drop first boxes) ++ asked_in_boxes source (first + length left) right z) (drop-drop (length left) first boxes)

-- ---- what is known

known_still : (old new : SourceState) (db : Database) (all : List Leaf) (boxes : List Bounds) → Keeps old new → known_of_leaves (chunks_listed new) db all boxes ≡ known_of_leaves (chunks_listed old) db all boxes
known_still old new db all boxes k = ap (λ (chunks : List ℕ → ℕ → List (ArrayVec ℕ)). known_of_leaves (λ leaf. version_chunks chunks leaf.name leaf.version) db all boxes) k.chunks

known_both : (stored : Leaf → List (ArrayVec ℕ)) (db : Database) (left right : List Leaf) (boxes : List Bounds) → length left ≤ length boxes
    → known_of_leaves stored db (left ++ right) boxes ≡ known_of_leaves stored db left boxes ++ known_of_leaves stored db right (drop (length left) boxes)
known_both stored db [] right boxes l = refl
known_both stored db (leaf ∷ left) right [] l = absurd (omega (arith, l))
known_both stored db (leaf ∷ left) right (box ∷ boxes) l =
    ap (λ (z : List (List Row)). known_for leaf box (stored leaf) (version_rows db leaf.name leaf.version) ∷ z) (known_both stored db left right boxes (omega (arith, l)))

known_each : (stored : Leaf → List (ArrayVec ℕ)) (db : Database) (all : List Leaf) (boxes : List Bounds) → length all ≤ length boxes → length (known_of_leaves stored db all boxes) ≡ length all
known_each stored db [] boxes l = refl
known_each stored db (leaf ∷ all) [] l = absurd (omega (arith, l))
known_each stored db (leaf ∷ all) (box ∷ boxes) l = ap suc (known_each stored db all boxes (omega (arith, l)))

-- what a database has for the leaves of both sources it has for those of each
known_of_both : (stored : Leaf → List (ArrayVec ℕ)) (db known : Database) (first : ℕ) (left right : List Leaf) (boxes : List Bounds) → first + length left ≤ length boxes
    → HoldsAll known first (known_of_leaves stored db (left ++ right) (drop first boxes))
    → HoldsAll known first (known_of_leaves stored db left (drop first boxes)) × HoldsAll known (first + length left) (known_of_leaves stored db right (drop (first + length left) boxes))
known_of_both stored db known first left right boxes l h =
    let few : length left ≤ length (drop first boxes) = omega (arith, l, length-drop first boxes) in
    let a = known_of_leaves stored db left (drop first boxes) in
    let b = known_of_leaves stored db right (drop (length left) (drop first boxes)) in
    let parts = holds_parts known first a b (subst (HoldsAll known first) (known_both stored db left right (drop first boxes) few) h) in (
      parts.0,
      subst (λ (z : List Bounds). HoldsAll known (first + length left) (known_of_leaves stored db right z)) (drop-drop (length left) first boxes)
          (subst (λ (m : ℕ). HoldsAll known (first + m) b) (known_each stored db left (drop first boxes) few) parts.1),
    )

-- ---- what a numbered plan means by its sources

numbered_one : (db : Database) (n : ℕ) (query source : Query) → source ∷ [] ≡ sources query → meaning db (numbered n query) ≡ operated query (meaning db (numbered n source) ∷ [])
numbered_one db n (built schema e) source is = absurd cc
numbered_one db n (listed schema rows) source is = absurd cc
numbered_one db n (scanned leaf) source is = absurd cc
numbered_one db n (filtered s test) source is = let e : s ≡ source = cc in ap (λ (z : Query). operated (filtered s test) (meaning db (numbered n z) ∷ [])) e
numbered_one db n (applied s values) source is = let e : s ≡ source = cc in ap (λ (z : Query). operated (applied s values) (meaning db (numbered n z) ∷ [])) e
numbered_one db n (projected s places) source is = let e : s ≡ source = cc in ap (λ (z : Query). operated (projected s places) (meaning db (numbered n z) ∷ [])) e
numbered_one db n (between s area) source is = let e : s ≡ source = cc in ap (λ (z : Query). operated (between s area) (meaning db (numbered n z) ∷ [])) e
numbered_one db n (subarray s area) source is = let e : s ≡ source = cc in ap (λ (z : Query). operated (subarray s area) (meaning db (numbered n z) ∷ [])) e
numbered_one db n (sliced s fixed) source is = let e : s ≡ source = cc in ap (λ (z : Query). operated (sliced s fixed) (meaning db (numbered n z) ∷ [])) e
numbered_one db n (joined l r schema) source is = absurd cc
numbered_one db n (crossed l r pairs schema) source is = absurd cc
numbered_one db n (redimensioned s schema gs) source is = let e : s ≡ source = cc in ap (λ (z : Query). operated (redimensioned s schema gs) (meaning db (numbered n z) ∷ [])) e
numbered_one db n (regridded s sizes gs) source is = let e : s ≡ source = cc in ap (λ (z : Query). operated (regridded s sizes gs) (meaning db (numbered n z) ∷ [])) e
numbered_one db n (windowed s reach gs) source is = let e : s ≡ source = cc in ap (λ (z : Query). operated (windowed s reach gs) (meaning db (numbered n z) ∷ [])) e
numbered_one db n (aggregated s gs places) source is = let e : s ≡ source = cc in ap (λ (z : Query). operated (aggregated s gs places) (meaning db (numbered n z) ∷ [])) e
numbered_one db n (sorted s keys schema) source is = let e : s ≡ source = cc in ap (λ (z : Query). operated (sorted s keys schema) (meaning db (numbered n z) ∷ [])) e
numbered_one db n (ranked s x dims) source is = let e : s ≡ source = cc in ap (λ (z : Query). operated (ranked s x dims) (meaning db (numbered n z) ∷ [])) e
numbered_one db n (cumulated s gs d) source is = let e : s ≡ source = cc in ap (λ (z : Query). operated (cumulated s gs d) (meaning db (numbered n z) ∷ [])) e
numbered_one db n (transposed s) source is = let e : s ≡ source = cc in ap (λ (z : Query). operated (transposed s) (meaning db (numbered n z) ∷ [])) e
numbered_one db n (reversed s) source is = let e : s ≡ source = cc in ap (λ (z : Query). operated (reversed s) (meaning db (numbered n z) ∷ [])) e
numbered_one db n (unpacked s schema) source is = let e : s ≡ source = cc in ap (λ (z : Query). operated (unpacked s schema) (meaning db (numbered n z) ∷ [])) e
numbered_one db n (xgridded s sizes) source is = let e : s ≡ source = cc in ap (λ (z : Query). operated (xgridded s sizes) (meaning db (numbered n z) ∷ [])) e
numbered_one db n (merged l r) source is = absurd cc
numbered_one db n (concatenated l r) source is = absurd cc

numbered_two : (db : Database) (n : ℕ) (query left right : Query) → left ∷ right ∷ [] ≡ sources query
    → meaning db (numbered n query) ≡ operated query (meaning db (numbered n left) ∷ meaning db (numbered (n + length (leaves left)) right) ∷ [])
numbered_two db n (joined l r schema) left right is =
    let e : l ≡ left = cc in
    let f : r ≡ right = cc in
    ap (λ (z : Query). operated (joined l r schema) (meaning db (numbered n z) ∷ meaning db (numbered (n + length (leaves z)) r) ∷ [])) e
    ∙ ap (λ (z : Query). operated (joined l r schema) (meaning db (numbered n left) ∷ meaning db (numbered (n + length (leaves left)) z) ∷ [])) f
numbered_two db n (crossed l r pairs schema) left right is =
    let e : l ≡ left = cc in
    let f : r ≡ right = cc in
    ap (λ (z : Query). operated (crossed l r pairs schema) (meaning db (numbered n z) ∷ meaning db (numbered (n + length (leaves z)) r) ∷ [])) e
    ∙ ap (λ (z : Query). operated (crossed l r pairs schema) (meaning db (numbered n left) ∷ meaning db (numbered (n + length (leaves left)) z) ∷ [])) f
numbered_two db n (merged l r) left right is =
    let e : l ≡ left = cc in
    let f : r ≡ right = cc in
    ap (λ (z : Query). operated (merged l r) (meaning db (numbered n z) ∷ meaning db (numbered (n + length (leaves z)) r) ∷ [])) e
    ∙ ap (λ (z : Query). operated (merged l r) (meaning db (numbered n left) ∷ meaning db (numbered (n + length (leaves left)) z) ∷ [])) f
numbered_two db n (concatenated l r) left right is =
    let e : l ≡ left = cc in
    let f : r ≡ right = cc in
    ap (λ (z : Query). operated (concatenated l r) (meaning db (numbered n z) ∷ meaning db (numbered (n + length (leaves z)) r) ∷ [])) e
    ∙ ap (λ (z : Query). operated (concatenated l r) (meaning db (numbered n left) ∷ meaning db (numbered (n + length (leaves left)) z) ∷ [])) f
numbered_two db n query left right is = absurd cc

-- ---- plans of one source

abbrev pub HasLeaf : SourceState → Database → Leaf → Type 0
HasLeaf source db leaf = HasArray leaf (version_rows db leaf.name leaf.version) (chunks_listed source leaf)

pub computed_one : (first : ℕ) (boxes : List Bounds) (old new : SourceState) (query source : Query) (array made : ChunkedArray) → source ∷ [] ≡ sources query → IsComputed first boxes old new source array → IsResultOf query (array ∷ []) made
    → IsComputed first boxes old new query made
computed_one first boxes old new query source array made is from result =
    let same = leaves_of_one query source is in
    record {
      schema_is = result.schema_is;
      cells = result.cells;
      leaves_are = λ db tells. subst (AllByRecursion (HasLeaf old db)) (sym same) (from.leaves_are db tells);
      means = λ db known tells h.
          let of_source = from.means db known tells (subst (λ (z : List Leaf). HoldsAll known first (known_of_leaves (chunks_listed old) db z boxes)) same h) in
          subst (Is made) (sym (numbered_one known first query source is)) (result.means (meaning known (numbered first source) ∷ []) (of_source, tt));
      asked = from.asked ∙ ap (λ (z : List Leaf). old.asked ++ asked_in_boxes old first z boxes) (sym same);
    }

pub can_source : (old : SourceState) (query source : Query) → source ∷ [] ≡ sources query → CanCompute old query → CanCompute old source
can_source old query source is can = record {
  typed = let t : AllByRecursion IsTyped (source ∷ []) = subst (AllByRecursion IsTyped) (sym is) (typed_sources query can.typed) in t.0;
  reads = subst (AllByRecursion (Reads old)) (leaves_of_one query source is) can.reads;
}

pub enough_for_one : (first : ℕ) (boxes : List Bounds) (query source : Query) → source ∷ [] ≡ sources query → first + length (leaves query) ≤ length boxes → first + length (leaves source) ≤ length boxes
enough_for_one first boxes query source is = subst (λ (z : List Leaf). first + length z ≤ length boxes) (leaves_of_one query source is)

-- ---- plans of two sources

all_left : {A : Type 0} (P : A → Type 0) (xs ys : List A) → AllByRecursion P (xs ++ ys) → AllByRecursion P xs
all_left P [] ys a = tt
all_left P (x ∷ xs) ys a = (a.0, all_left P xs ys a.1)

all_both : {A : Type 0} (P : A → Type 0) (xs ys : List A) → AllByRecursion P xs → AllByRecursion P ys → AllByRecursion P (xs ++ ys)
all_both P [] ys a b = b
all_both P (x ∷ xs) ys a b = (a.0, all_both P xs ys a.1 b)

pub can_left : (old : SourceState) (query left right : Query) → left ∷ right ∷ [] ≡ sources query → CanCompute old query → CanCompute old left
can_left old query left right is can = record {
  typed = let t : AllByRecursion IsTyped (left ∷ right ∷ []) = subst (AllByRecursion IsTyped) (sym is) (typed_sources query can.typed) in t.0;
  reads = all_left (Reads old) (leaves left) (leaves right) (subst (AllByRecursion (Reads old)) (leaves_of_two query left right is) can.reads);
}

pub can_right : (old mid : SourceState) (query left right : Query) → left ∷ right ∷ [] ≡ sources query → Keeps old mid → CanCompute old query → CanCompute mid right
can_right old mid query left right is k can = record {
  typed = let t : AllByRecursion IsTyped (left ∷ right ∷ []) = subst (AllByRecursion IsTyped) (sym is) (typed_sources query can.typed) in t.1.0;
  reads = all_reads_still old mid (leaves right) k (all_right (Reads old) (leaves left) (leaves right) (subst (AllByRecursion (Reads old)) (leaves_of_two query left right is) can.reads));
}

pub enough_for_both : (first : ℕ) (boxes : List Bounds) (query left right : Query) → left ∷ right ∷ [] ≡ sources query → first + length (leaves query) ≤ length boxes
    → (first + length (leaves left) ≤ length boxes) × (first + length (leaves left) + length (leaves right) ≤ length boxes)
enough_for_both first boxes query left right is l =
    let both : first + length (leaves left ++ leaves right) ≤ length boxes = subst (λ (z : List Leaf). first + length z ≤ length boxes) (leaves_of_two query left right is) l in
    (omega (arith, both, length-append (leaves left) (leaves right)), omega (arith, both, length-append (leaves left) (leaves right)))

pub enough_for_right : (first second : ℕ) (boxes : List Bounds) (query left right : Query) → left ∷ right ∷ [] ≡ sources query → first + length (leaves query) ≤ length boxes → second ≡ first + length (leaves left)
    → second + length (leaves right) ≤ length boxes
enough_for_right first second boxes query left right is l numbers = let both = (enough_for_both first boxes query left right is l).1 in omega (arith, both, numbers)

-- the right source's leaves are numbered behind those of the left one
pub computed_two : (first second : ℕ) (boxes : List Bounds) (old mid new : SourceState) (query left right : Query) (a b made : ChunkedArray) → left ∷ right ∷ [] ≡ sources query → Keeps old mid → second ≡ first + length (leaves left)
    → first + length (leaves left) ≤ length boxes → IsComputed first (drop first boxes) old mid left a → IsComputed second (drop second boxes) mid new right b → IsResultOf query (a ∷ b ∷ []) made
    → IsComputed first (drop first boxes) old new query made
computed_two first second boxes old mid new query left right a b made is k numbers enough made_left made_right result =
    let next = first + length (leaves left) in
    let same = leaves_of_two query left right is in
    let here = asked_in_boxes old first (leaves left) (drop first boxes) in
    let behind : asked_in_boxes mid second (leaves right) (drop second boxes) ≡ asked_in_boxes old next (leaves right) (drop next boxes)
    = asked_still old mid second (leaves right) (drop second boxes) k ∙ ap (λ n. asked_in_boxes old n (leaves right) (drop n boxes)) numbers in
    record {
      schema_is = result.schema_is;
      cells = result.cells;
      leaves_are = λ db tells.
          let listed_alike : AllByRecursion (HasLeaf mid db) (leaves right) = made_right.leaves_are db ((k.tells db).1 tells) in
          let of_right : AllByRecursion (HasLeaf old db) (leaves right)
          = subst (λ (chunks : List ℕ → ℕ → List (ArrayVec ℕ)). AllByRecursion (λ leaf. HasArray leaf (version_rows db leaf.name leaf.version) (version_chunks chunks leaf.name leaf.version)) (leaves right)) k.chunks listed_alike in
          subst (AllByRecursion (HasLeaf old db)) (sym same) (all_both (HasLeaf old db) (leaves left) (leaves right) (made_left.leaves_are db tells) of_right);
      means = λ db known tells h.
          let parts = known_of_both (chunks_listed old) db known first (leaves left) (leaves right) boxes enough
          (subst (λ (z : List Leaf). HoldsAll known first (known_of_leaves (chunks_listed old) db z (drop first boxes))) same h) in
          let known_right : HoldsAll known second (known_of_leaves (chunks_listed mid) db (leaves right) (drop second boxes))
          = subst (λ (z : List (List Row)). HoldsAll known second z) (sym (known_still old mid db (leaves right) (drop second boxes) k))
          (subst (λ (n : ℕ). HoldsAll known n (known_of_leaves (chunks_listed old) db (leaves right) (drop n boxes))) (sym numbers) parts.1) in
          let right_is : Is b (meaning known (numbered next right))
          = subst (λ (n : ℕ). Is b (meaning known (numbered n right))) numbers (made_right.means db known ((k.tells db).1 tells) known_right) in
          subst (Is made) (sym (numbered_two known first query left right is))
          (result.means (meaning known (numbered first left) ∷ meaning known (numbered next right) ∷ []) (made_left.means db known tells parts.0, (right_is, tt)));
      asked = made_right.asked
          ∙ ap (λ (z : List Asked). z ++ asked_in_boxes mid second (leaves right) (drop second boxes)) made_left.asked
          ∙ ap (λ (z : List Asked). (old.asked ++ here) ++ z) behind
          ∙ append_assoc old.asked here (asked_in_boxes old next (leaves right) (drop next boxes))
          ∙ ap (λ (z : List Asked). old.asked ++ z) (sym (asked_of_both old first (leaves left) (leaves right) boxes enough))
          ∙ ap (λ (z : List Leaf). old.asked ++ asked_in_boxes old first z (drop first boxes)) (sym same);
    }

-- ---- how many leaves

pub count_two : (first second next : ℕ) (query left right : Query) → left ∷ right ∷ [] ≡ sources query → second ≡ first + length (leaves left) → next ≡ second + length (leaves right) → next ≡ first + length (leaves query)
count_two first second next query left right is e f =
    let sum : next ≡ first + length (leaves left ++ leaves right) = omega (arith, length-append (leaves left) (leaves right)) in
    sum ∙ ap (λ (z : List Leaf). first + length z) (sym (leaves_of_two query left right is))

-- ---- what was asked for where a call failed

pub front_none : {T E : Type 0} (answer : Result T E) (all : List Asked) (old : SourceState) → OnErr answer (AsksFront all old old)
front_none answer all old = on_err answer _ (asked_none all old old refl)

-- the boxes from the one of a number on
next_box : (boxes : List Bounds) (n : ℕ) (d : Bounds) → n < length boxes → drop n boxes ≡ slice_index_or boxes n d ∷ drop (n + 1) boxes
next_box boxes n d l = drop_more boxes n d l

pub scan_front : {T E : Type 0} (answer : Result T E) (query : Query) (leaf : Leaf) (first : ℕ) (boxes : List Bounds) (old new : SourceState) → query ≡ scanned leaf
    → OnErr answer (AsksFront (asked_in_boxes old first (leaves (scanned leaf)) boxes) old new) → OnErr answer (AsksFront (asked_in_boxes old first (leaves query) boxes) old new)
scan_front answer query leaf first boxes old new is front =
    subst (λ (z : Query). OnErr answer (AsksFront (asked_in_boxes old first (leaves z) boxes) old new)) (sym is) front

module _ (query : Query) (first : ℕ) (boxes : List Bounds) (old new : SourceState) where
  -- the source was not computed
  pub front_one : (source : Query) → source ∷ [] ≡ sources query → AsksFront (asked_in_boxes old first (leaves source) (drop first boxes)) old new → AsksFront (asked_in_boxes old first (leaves query) (drop first boxes)) old new
  front_one source is = subst (λ (z : List Leaf). AsksFront (asked_in_boxes old first z (drop first boxes)) old new) (sym (leaves_of_one query source is))

  -- the source was computed
  pub front_made : (source : Query) → source ∷ [] ≡ sources query → (array : ChunkedArray) → IsComputed first (drop first boxes) old new source array → AsksFront (asked_in_boxes old first (leaves query) (drop first boxes)) old new
  front_made source is array made = front_one source is (asked_all (asked_in_boxes old first (leaves source) (drop first boxes)) old new made.asked)

  -- the left source was not computed
  pub front_left : (left right : Query) → left ∷ right ∷ [] ≡ sources query → first + length (leaves left) ≤ length boxes → AsksFront (asked_in_boxes old first (leaves left) (drop first boxes)) old new
      → AsksFront (asked_in_boxes old first (leaves query) (drop first boxes)) old new
  front_left left right is enough front =
      let next = first + length (leaves left) in
      let behind = asked_in_boxes old next (leaves right) (drop next boxes) in
      subst (λ (z : List Leaf). AsksFront (asked_in_boxes old first z (drop first boxes)) old new) (sym (leaves_of_two query left right is)) (record {
        done = front.done;
        rest = front.rest ++ behind;
        in_order = asked_of_both old first (leaves left) (leaves right) boxes enough ∙ ap (λ (z : List Asked). z ++ behind) front.in_order ∙ append_assoc front.done front.rest behind;
        asked = front.asked;
      })

  -- the left source was computed, and the right one not, or both
  pub front_right : (second : ℕ) (mid : SourceState) (left right : Query) (a : ChunkedArray) → left ∷ right ∷ [] ≡ sources query → Keeps old mid → second ≡ first + length (leaves left) → first + length (leaves left) ≤ length boxes
      → IsComputed first (drop first boxes) old mid left a → AsksFront (asked_in_boxes mid second (leaves right) (drop second boxes)) mid new → AsksFront (asked_in_boxes old first (leaves query) (drop first boxes)) old new
  front_right second mid left right a is k numbers enough made front =
      let next = first + length (leaves left) in
      let here = asked_in_boxes old first (leaves left) (drop first boxes) in
      let behind : asked_in_boxes mid second (leaves right) (drop second boxes) ≡ asked_in_boxes old next (leaves right) (drop next boxes)
      = asked_still old mid second (leaves right) (drop second boxes) k ∙ ap (λ n. asked_in_boxes old n (leaves right) (drop n boxes)) numbers in
      subst (λ (z : List Leaf). AsksFront (asked_in_boxes old first z (drop first boxes)) old new) (sym (leaves_of_two query left right is)) (record {
        done = here ++ front.done;
        rest = front.rest;
        in_order = asked_of_both old first (leaves left) (leaves right) boxes enough ∙ ap (λ (z : List Asked). here ++ z) (sym behind ∙ front.in_order) ∙ sym (append_assoc here front.done front.rest);
        asked = front.asked ∙ ap (λ (z : List Asked). z ++ front.done) made.asked ∙ append_assoc old.asked here front.done;
      })

  pub front_both : (second : ℕ) (mid : SourceState) (left right : Query) (a b : ChunkedArray) → left ∷ right ∷ [] ≡ sources query → Keeps old mid → second ≡ first + length (leaves left) → first + length (leaves left) ≤ length boxes
      → IsComputed first (drop first boxes) old mid left a → IsComputed second (drop second boxes) mid new right b → AsksFront (asked_in_boxes old first (leaves query) (drop first boxes)) old new
  front_both second mid left right a b is k numbers enough made made_right =
      front_right second mid left right a is k numbers enough made (asked_all (asked_in_boxes mid second (leaves right) (drop second boxes)) mid new made_right.asked)

-- ---- leaves, and arrays that are given in the plan

module _ (first : ℕ) (boxes : List Bounds) (box : Bounds) (old new : SourceState) (leaf : Leaf) (enough : first < length boxes) (is : box ≡ slice_index_or boxes first box) where
  its_box : drop first boxes ≡ box ∷ drop (first + 1) boxes
  its_box = next_box boxes first box enough ∙ ap (λ (z : Bounds). z ∷ drop (first + 1) boxes) (sym is)

  its_chunks : map (asks first) (wanted_of leaf.schema.dimensions box (chunks_listed old leaf)) ≡ asked_in_boxes old first (leaves (scanned leaf)) (drop first boxes)
  its_chunks =
      sym (append-nil (map (asks first) (wanted_of leaf.schema.dimensions box (chunks_listed old leaf))))
      ∙ ap (λ (z : List Bounds). asked_in_boxes old first (leaf ∷ []) z) (sym its_box)

  computed_scan : (array : ChunkedArray) → IsRead leaf.schema array → ((db : Database) → old.tells db → IsPartIn db leaf box (chunks_listed old leaf) array)
      → new.asked ≡ old.asked ++ map (asks first) (wanted_of leaf.schema.dimensions box (chunks_listed old leaf)) → IsComputed first (drop first boxes) old new (scanned leaf) array
  computed_scan array read told asked = record {
    schema_is = read.schema_is;
    cells = λ whole. valid_chunks_have_cells array.schema array.margins.items array.chunks read.placed read.valid;
    leaves_are = λ db tells. ((told db tells).stored_is, tt);
    means = λ db known tells h.
        let held : HoldsAll known first (known_for leaf box (chunks_listed old leaf) (version_rows db leaf.name leaf.version) ∷ [])
        = subst (λ (z : List Bounds). HoldsAll known first (known_of_leaves (chunks_listed old) db (leaf ∷ []) z)) its_box h in
        subst (λ (rows : List Row). Is array (whole leaf.schema rows)) (sym held.0) (told db tells).known_is;
    asked = asked ∙ ap (λ (z : List Asked). old.asked ++ z) its_chunks;
  }

  pub scan_computed : (answer : Result ChunkedArray ExecFault) → IfOk answer (IsRead leaf.schema) → IfOk answer (λ array. (db : Database) → old.tells db → IsPartIn db leaf box (chunks_listed old leaf) array)
      → OnOk answer (new.asked ≡ old.asked ++ map (asks first) (wanted_of leaf.schema.dimensions box (chunks_listed old leaf))) → IfOk answer (IsComputed first (drop first boxes) old new (scanned leaf))
  scan_computed (Err fault) read told asked = tt
  scan_computed (Ok array) read told asked = computed_scan array read told asked

  pub scan_asked : {T E : Type 0} (answer : Result T E) → OnErr answer (AsksFront (map (asks first) (wanted_of leaf.schema.dimensions box (chunks_listed old leaf))) old new)
      → OnErr answer (AsksFront (asked_in_boxes old first (leaves (scanned leaf)) (drop first boxes)) old new)
  scan_asked answer front = subst (λ (z : List Asked). OnErr answer (AsksFront z old new)) its_chunks front

-- an array that is given in the plan is what the plan means wherever
pub given_computed : (first : ℕ) (boxes : List Bounds) (old : SourceState) (query : Query) (schema : Schema) (rows : List Row) (array : ChunkedArray) → schema_of query ≡ schema → leaves query ≡ []
    → ((db : Database) → meaning db (numbered first query) ≡ whole schema rows) → IsGiven schema rows array → IsComputed first boxes old old query array
given_computed first boxes old query schema rows array s none means given = record {
  schema_is = given.schema_is ∙ sym s;
  cells = given.cells;
  leaves_are = λ db tells. subst (AllByRecursion (λ leaf. HasArray leaf (version_rows db leaf.name leaf.version) (chunks_listed old leaf))) (sym none) tt;
  means = λ db known tells h. subst (Is array) (sym (means known)) given.means;
  asked = sym (append-nil old.asked) ∙ ap (λ (z : List Leaf). old.asked ++ asked_in_boxes old first z boxes) (sym none);
}

-- ---- rows that are given

nothing : Database
nothing name version = []

pub built_array : (schema : Schema) (e : Expr) → IsTyped (built schema e) → AreRowsOf schema (built_rows schema e)
built_array schema e typed = typed_arrays nothing (built schema e) refl typed tt

pub is_given : (schema : Schema) (rows : List Row) (answer : Result ChunkedArray Memory) → IfOk answer (λ array. Is array (whole schema rows)) → IfOk answer (IsGiven schema rows)
is_given schema rows (Err e) is = is
is_given schema rows (Ok array) is = record { schema_is = is.schema; cells = arrays_have_cells array (whole schema rows) is; means = is }
