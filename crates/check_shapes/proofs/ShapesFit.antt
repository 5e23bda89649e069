-- What holds of the parts of `reverse`, `unpack` and `xgrid`: they fit the source, and the schema of the result is valid where it is within
-- the limits. So is that of `transpose`.
use Rattle.std.proofs.Common.{◌≡◌, ℕ, suc, ◌+◌, ◌≤◌, ℤ, ◌≤ℤ◌, Bool, true, false, not, ◌&&◌, ◌||◌, ◌==◌, Ok, Some, None, Option, IfOk, List, [], ◌∷◌, ◌++◌, length, map, refl, sym, ap, ◌∙◌, arith}
use Rattle.std.specs.Prelude.{nat_le, reverse}
use Rattle.std.specs.List.{list_all}
use Rattle.std.proofs.lemmas.Bool.{and_parts, and_from, not-true, leb-true, eqb-true}
use Rattle.std.proofs.lemmas.Int.{ints}
use Rattle.std.proofs.lemmas.List.{append-nil, length-append, length-reverse, map-append, reverse-append}
use Rattle.std.proofs.lemmas.List.Folds.{list_all-append}
use Rattle.cell_values.specs.declared.name.Span.{Span}
use Rattle.cell_values.specs.declared.schema.Attribute.{Attribute}
use Rattle.cell_values.specs.declared.schema.Dimension.{Dimension}
use Rattle.cell_values.specs.declared.schema.Schema.{Schema}
use Rattle.cell_values.specs.Schemas.{IsValid, attribute_names, dimension_names, is_among, are_distinct, is_dimension}
use Rattle.schema_grammar.specs.Rules.{rule}
use Rattle.schema_grammar.specs.declared.kinds.TypeKind.TheVariants.{BoundsRange, NotBounded, OutOfRange, RepeatedName, WrongCount}
use Rattle.schema_grammar.specs.declared.rules.Rule.{Rule}
use Rattle.afl_trees.specs.Term.{Term, reference}
use Rattle.afl_trees.specs.Grammar.{span_of}
use Rattle.array_rows.specs.Boxes.{by_pairs}
use Rattle.logical_plan.specs.Shapes.{last_place}
use Rattle.logical_plan.specs.ShapeSchemas.{enlarged, numbers_of, transpose_schema, unpack_schema, xgrid_schema}
use Rattle.logical_plan.specs.Typing.{are_bounded, can_enlarge, enlarges, first_name, product_of}
use Rattle.check_rules.specs.Checked.{Checked}
use Rattle.check_rules.proofs.RulesHolding.{demanded, thens, of_answer}
use Rattle.check_rules.specs.InTurn.{in_turn}
use Rattle.check_rules.specs.Sorts.{is_number, first_but, unless_other}
use Rattle.check_rules.proofs.OperatorsHolding.{IsWithin}
use Rattle.check_rules.proofs.Names.{among_neither, among_parts, distinct_behind, distinct_between}
use Rattle.check_rules.proofs.Turns.{turns_count}
use Rattle.check_rules.proofs.ValidSchemas.{ValidParts, valid_parts, valid_of_parts}
use Rattle.check_groups.specs.Blocks.{block_one}
use Rattle.check_groups.proofs.PartsFit.{AreSizes, sizes_kept}
use Rattle.check_joins.proofs.Distinct.{distinct_swapped}
use Rattle.check_shapes.specs.Reverse.{reverse_rules}
use Rattle.check_shapes.specs.Tables.{all_hold}
use Rattle.check_shapes.specs.Unpack.{unpack_parts, unpack_under}
use Rattle.check_shapes.specs.Xgrid.{bound_rules, has_room, with_sizes, xgrid_parts}
use Rattle.check_shapes.proofs.HighBounds.{high_fits}
use Rattle.check_shapes.proofs.Holding.{first_holds}
use Rattle.check_shapes.proofs.NumberedFit.{numbered_valid}

unless_ok : {A : Type 0} (P : A → Type 0) (o : Option Span) (next : Checked A) → IfOk next P → IfOk (unless_other o next) P
unless_ok P None next h = h
unless_ok P (Some s) next h = tt

-- ---- lists backwards

last_first : {A : Type 0} (x : A) (xs : List A) → reverse (x ∷ xs) ≡ reverse xs ++ x ∷ []
last_first x xs = reverse-append (x ∷ []) xs

names_backwards : (dims : List Dimension) → dimension_names (reverse dims) ≡ reverse (dimension_names dims)
names_backwards [] = refl
names_backwards (d ∷ dims) =
    ap dimension_names (last_first d dims) ∙ map-append (λ (x : Dimension). x.name) (reverse dims) (d ∷ [])
    ∙ ap (λ (ns : List (List ℕ)). ns ++ d.name ∷ []) (names_backwards dims) ∙ sym (last_first d.name (dimension_names dims))

none_backwards : (n : List ℕ) (xs : List (List ℕ)) → is_among n xs ≡ false → is_among n (reverse xs) ≡ false
none_backwards n [] e = refl
none_backwards n (x ∷ xs) e =
    let p = among_parts n (x ∷ []) xs e in
    ap (is_among n) (last_first x xs) ∙ among_neither n (reverse xs) (x ∷ []) (none_backwards n xs p.1) p.0

distinct_backwards : (xs : List (List ℕ)) → are_distinct xs ≡ true → are_distinct (reverse xs) ≡ true
distinct_backwards [] d = refl
distinct_backwards (x ∷ xs) d =
    let p = and_parts (not (is_among x xs)) (are_distinct xs) d in
    let rest : are_distinct (reverse xs ++ []) ≡ true = ap are_distinct (append-nil (reverse xs)) ∙ distinct_backwards xs p.1 in
    ap are_distinct (last_first x xs) ∙ distinct_between (reverse xs) [] x rest (none_backwards x xs (not-true (is_among x xs) p.0)) refl

all_backwards : (p : Dimension → Bool) (dims : List Dimension) → list_all p dims ≡ true → list_all p (reverse dims) ≡ true
all_backwards p [] e = refl
all_backwards p (d ∷ dims) e =
    let both = and_parts (p d) (list_all p dims) e in
    ap (list_all p) (last_first d dims) ∙ list_all-append p (reverse dims) (d ∷ [])
    ∙ and_from (list_all p (reverse dims)) (p d && true) (all_backwards p dims both.1) (ap (λ b. b && true) both.0)

-- ---- dimensions as attributes

number_names : (dims : List Dimension) → attribute_names (map numbers_of dims) ≡ dimension_names dims
number_names [] = refl
number_names (d ∷ dims) = ap (λ (ns : List (List ℕ)). d.name ∷ ns) (number_names dims)

-- ---- larger blocks

large_names : (dims : List Dimension) (sizes : List ℕ) → can_enlarge dims sizes ≡ true → dimension_names (by_pairs enlarged dims sizes) ≡ dimension_names dims
large_names [] [] e = refl
large_names [] (size ∷ sizes) e = cc
large_names (d ∷ dims) [] e = cc
large_names (d ∷ dims) (size ∷ sizes) e =
    let p = and_parts (nat_le 1 size && has_room d size) (can_enlarge dims sizes) e in
    ap (λ (ns : List (List ℕ)). d.name ∷ ns) (large_names dims sizes p.1)

large_count : (dims : List Dimension) (sizes : List ℕ) → can_enlarge dims sizes ≡ true → length (by_pairs enlarged dims sizes) ≡ length dims
large_count [] [] e = refl
large_count [] (size ∷ sizes) e = cc
large_count (d ∷ dims) [] e = cc
large_count (d ∷ dims) (size ∷ sizes) e =
    let p = and_parts (nat_le 1 size && has_room d size) (can_enlarge dims sizes) e in
    ap suc (large_count dims sizes p.1)

from_low : (d : Dimension) (size : ℕ) (x : ℤ) → d.lo ≤ℤ last_place d size x
from_low d size x = omega (arith, ints)

all_large : (dims : List Dimension) (sizes : List ℕ) → can_enlarge dims sizes ≡ true → list_all is_dimension dims ≡ true → list_all is_dimension (by_pairs enlarged dims sizes) ≡ true
all_large [] [] e all = refl
all_large [] (size ∷ sizes) e all = cc
all_large (d ∷ dims) [] e all = cc
all_large (d ∷ dims) (size ∷ sizes) e all =
    let p = and_parts (nat_le 1 size && has_room d size) (can_enlarge dims sizes) e in
    let q = and_parts (nat_le 1 size) (has_room d size) p.0 in
    let r = and_parts (is_dimension d) (list_all is_dimension dims) all in
    and_from (is_dimension (enlarged d size)) (list_all is_dimension (by_pairs enlarged dims sizes))
    (high_fits d (last_place d size d.hi) r.0 (from_low d size d.hi) q.1) (all_large dims sizes p.1 r.1)

-- where the rules of the bounds hold, and the one behind them
can_all : (dims : List Dimension) (sizes : List ℕ) (ts : List Term) (last : Rule) (done : Unit {0}) → length sizes ≡ length dims → length ts ≡ length dims → AreSizes sizes
    → all_hold (bound_rules dims sizes ts last) ≡ Ok done → (can_enlarge dims sizes ≡ true) × (last.holds ≡ true)
can_all [] [] ts last done count terms all e = (refl, (first_holds last [] done e).0)
can_all [] (size ∷ sizes) ts last done count terms all e = absurd (omega (arith, count))
can_all (d ∷ dims) [] ts last done count terms all e = absurd (omega (arith, count))
can_all (d ∷ dims) (size ∷ sizes) [] last done count terms all e = absurd (omega (arith, terms))
can_all (d ∷ dims) (size ∷ sizes) (t ∷ ts) last done count terms all e =
    let p = first_holds (rule (has_room d size) (span_of t) BoundsRange) (bound_rules dims sizes ts last) done e in
    let q = and_parts (nat_le 1 size) (list_all (λ n. nat_le 1 n) sizes) all in
    let rest = can_all dims sizes ts last done (omega (arith, count)) (omega (arith, terms)) q.1 p.1 in
    (and_from (nat_le 1 size && has_room d size) (can_enlarge dims sizes) (and_from (nat_le 1 size) (has_room d size) q.0 p.0) rest.0, rest.1)

module _ (s : Span) (source : Schema) (is_valid : IsValid source) where
  parts : ValidParts source
  parts = valid_parts source is_valid

  abbrev ns : List (List ℕ)
  ns = attribute_names source.attributes

  abbrev ms : List (List ℕ)
  ms = dimension_names source.dimensions

  -- transpose

  pub transpose_valid : IsWithin (transpose_schema source) → IsValid (transpose_schema source)
  transpose_valid within =
      let dims = source.dimensions in
      valid_of_parts (transpose_schema source) (record {
        attributes = parts.attributes;
        dimensions = ap (λ n. nat_le 1 n && nat_le n 6) (length-reverse dims) ∙ parts.dimensions;
        distinct = ap (λ (xs : List (List ℕ)). are_distinct (ns ++ xs)) (names_backwards dims)
            ∙ distinct_behind ns ms (reverse ms) (λ n none. none_backwards n ms none) (distinct_backwards ms) parts.distinct;
        each = all_backwards is_dimension dims parts.each;
        frames = within.frames;
      })

  -- reverse

  pub reverse_fits : (at : Span) (done : Unit {0}) → all_hold (reverse_rules at source) ≡ Ok done → are_bounded source.dimensions ≡ true
  reverse_fits at done e = (first_holds (rule (are_bounded source.dimensions) at NotBounded) [] done e).0

  -- unpack

  pub record UnpackFits (made : Schema) : Type 0 where
    pub schema : made ≡ unpack_schema (first_name made.dimensions) source
    pub valid : IsWithin made → IsValid made

  unpack_distinct : (name : List ℕ) → is_among name ms ≡ false → is_among name ns ≡ false → are_distinct (attribute_names (unpack_schema name source).attributes ++ name ∷ []) ≡ true
  unpack_distinct name first second =
      let names : attribute_names (map numbers_of source.dimensions ++ source.attributes) ≡ ms ++ ns
      = map-append (λ (a : Attribute). a.name) (map numbers_of source.dimensions) source.attributes ∙ ap (λ (xs : List (List ℕ)). xs ++ ns) (number_names source.dimensions) in
      let both : are_distinct ((ms ++ ns) ++ []) ≡ true = ap are_distinct (append-nil (ms ++ ns)) ∙ distinct_swapped ns ms parts.distinct in
      ap (λ (xs : List (List ℕ)). are_distinct (xs ++ name ∷ [])) names ∙ distinct_between (ms ++ ns) [] name both (among_neither name ms ns first second) refl

  under_fits : (t : Term) → IfOk (unpack_under source t) UnpackFits
  under_fits (reference at name) =
      demanded UnpackFits (not (is_among name ms || is_among name ns)) at RepeatedName _ (λ fresh.
      let apart = or_both (is_among name ms) (is_among name ns) (not-true (is_among name ms || is_among name ns) fresh) in
      let attributes = map numbers_of source.dimensions ++ source.attributes in
      record {
        schema = refl;
        valid = λ within. numbered_valid attributes name (omega (arith, one, length-append (map numbers_of source.dimensions) source.attributes)) (unpack_distinct name apart.0 apart.1) within;
      })
    where
      or_both : (a b : Bool) → (a || b) ≡ false → (a ≡ false) × (b ≡ false)
      or_both false false e = (refl, refl)
      or_both false true e = cc
      or_both true b e = cc

      one : 1 ≤ length source.attributes
      one = leb-true 1 (length source.attributes) (and_parts (nat_le 1 (length source.attributes)) (nat_le (length source.attributes) 64) parts.attributes).0
  under_fits t = tt

  pub unpack_fits : (arguments : List Term) → IfOk (unpack_parts s source arguments) UnpackFits
  unpack_fits [] = tt
  unpack_fits (t ∷ []) = under_fits t
  unpack_fits (t ∷ u ∷ ts) = tt

  -- xgrid

  pub record XgridFits (sizes : List ℕ) : Type 0 where
    pub fit : enlarges source sizes ≡ true
    pub valid : IsWithin (xgrid_schema sizes source) → IsValid (xgrid_schema sizes source)

  xgrid_valid : (sizes : List ℕ) → can_enlarge source.dimensions sizes ≡ true → IsWithin (xgrid_schema sizes source) → IsValid (xgrid_schema sizes source)
  xgrid_valid sizes can within =
      let dims = source.dimensions in
      valid_of_parts (xgrid_schema sizes source) (record {
        attributes = parts.attributes;
        dimensions = ap (λ n. nat_le 1 n && nat_le n 6) (large_count dims sizes can) ∙ parts.dimensions;
        distinct = ap (λ (xs : List (List ℕ)). are_distinct (ns ++ xs)) (large_names dims sizes can) ∙ parts.distinct;
        each = all_large dims sizes can parts.each;
        frames = within.frames;
      })

  sizes_fit : (arguments : List Term) (sizes : List ℕ) → length sizes ≡ length source.dimensions → length arguments ≡ length source.dimensions → AreSizes sizes
      → IfOk (with_sizes s source arguments sizes) XgridFits
  sizes_fit arguments sizes count terms all =
      let last = rule (nat_le (product_of sizes) 65536) s OutOfRange in
      thens XgridFits (all_hold (bound_rules source.dimensions sizes arguments last)) _ (λ done e.
      let can = can_all source.dimensions sizes arguments last done count terms all e in
      record {
        fit = and_from (can_enlarge source.dimensions sizes) (nat_le (product_of sizes) 65536) can.0 can.1;
        valid = λ within. xgrid_valid sizes can.0 within;
      })

  pub xgrid_fits : (arguments : List Term) → IfOk (xgrid_parts s source arguments) XgridFits
  xgrid_fits arguments =
      unless_ok XgridFits (first_but is_number arguments) _
      (demanded XgridFits (length arguments == length source.dimensions) s WrongCount _ (λ c.
      let terms : length arguments ≡ length source.dimensions = eqb-true (length arguments) (length source.dimensions) c in
      thens XgridFits (in_turn block_one [] arguments) _ (λ sizes e.
      let count : length sizes ≡ 0 + length arguments = turns_count block_one [] arguments sizes e in
      sizes_fit arguments sizes (omega (arith, count, terms)) terms (of_answer AreSizes (in_turn block_one [] arguments) sizes (sizes_kept arguments) e))))
