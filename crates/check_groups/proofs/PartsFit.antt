-- What holds of the parts that checking answers: they fit the source, and the schema of the result is valid where it is within the limits.
use Rattle.std.proofs.Common.{◌≡◌, ℕ, zero, suc, ◌+◌, ◌*◌, ◌≤◌, ◌==◌, ℤ, pos, negsuc, unsigned_abs, true, ◌&&◌, Option, Some, None, Ok, IfOk, List, [], ◌∷◌, ◌++◌, length, refl, ap, ◌∙◌, arith}
use Rattle.std.specs.List.{AllByRecursion, list_all}
use Rattle.std.specs.Prelude.{nat_le, nat_lt, int_le}
use Rattle.std.proofs.lemmas.Bool.{and_parts, and_from, leb-true, le-leb, lt-ltb, eqb-true, eq-eqb}
use Rattle.std.proofs.lemmas.List.Folds.{list_all-append}
use Rattle.cell_values.specs.declared.name.Span.{Span}
use Rattle.cell_values.specs.declared.schema.Schema.{Schema}
use Rattle.cell_values.specs.Schemas.{IsValid, attribute_names, dimension_names, are_distinct, is_dimension}
use Rattle.schema_grammar.specs.declared.kinds.TypeKind.TheVariants.{OutOfRange, WindowTooLarge, WrongCount}
use Rattle.afl_trees.specs.Term.{Term}
use Rattle.afl_trees.specs.Grammar.{span_of}
use Rattle.array_rows.specs.Boxes.{by_pairs}
use Rattle.logical_plan.specs.PlanSchema.{aggregate_schema, cumulate_schema, group_dimensions, in_blocks, regrid_schema, window_schema}
use Rattle.logical_plan.specs.Typing.{are_aggregates_of, are_below, cumulates, are_blocks_of, are_windows_of, aggregate_names}
use Rattle.logical_plan.specs.declared.parts.Aggregate.{Aggregate}
use Rattle.logical_plan.specs.declared.parts.Reach.{Reach}
use Rattle.check_rules.specs.Checked.{Checked}
use Rattle.check_rules.proofs.RulesHolding.{demanded, thens, of_answer}
use Rattle.check_rules.specs.InTurn.{in_turn, pairs_in_turn}
use Rattle.check_rules.specs.Sorts.{is_name, is_number, first_but, number_in, unless_other}
use Rattle.check_rules.proofs.OperatorsHolding.{IsWithin}
use Rattle.check_rules.proofs.Names.{distinct_front}
use Rattle.check_rules.proofs.Turns.{turns_count, turns_keep}
use Rattle.check_rules.proofs.ValidSchemas.{ValidParts, valid_parts}
use Rattle.check_groups.specs.Names.{dimension_one}
use Rattle.check_groups.specs.AggregateSort.{front, behind, is_aggregate}
use Rattle.check_groups.specs.Aggregates.{aggregate_one, aggregates_of}
use Rattle.check_groups.proofs.Kept.{Kept, aggregates_kept}
use Rattle.check_groups.specs.Blocks.{block_one, regrid_parts, with_blocks}
use Rattle.check_groups.specs.Cumulations.{along, along_line, cumulate_parts, first_but_last_name}
use Rattle.check_groups.specs.Groups.{aggregate_parts, with_places}
use Rattle.check_groups.specs.Numbers.{at_least}
use Rattle.check_groups.specs.Windows.{reach_one, window_parts, with_reach}
use Rattle.check_groups.specs.declared.groups.aggregate.Groups.{Groups}
use Rattle.check_groups.specs.declared.groups.cumulate.Cumulation.{Cumulation}
use Rattle.check_groups.specs.declared.groups.regrid.Blocks.{Blocks}
use Rattle.check_groups.specs.declared.groups.window.Windows.{Windows}
use Rattle.check_groups.proofs.GroupSchemas.{made_valid, all_blocks_fit, block_names, block_count}
use Rattle.check_groups.proofs.NamedPlaces.{Named, one_below, places_named}

nothing_asked : (ts : List Term) → AllByRecursion (λ t. Unit {0}) ts
nothing_asked [] = tt
nothing_asked (t ∷ ts) = (tt, nothing_asked ts)

unless_ok : {A : Type 0} (P : A → Type 0) (o : Option Span) (next : Checked A) → IfOk next P → IfOk (unless_other o next) P
unless_ok P None next h = h
unless_ok P (Some s) next h = tt

-- numbers of 1 at least

at_least_one : (z : ℤ) → int_le (pos 1) z ≡ true → nat_le 1 (unsigned_abs z) ≡ true
at_least_one (pos zero) e = cc
at_least_one (pos (suc n)) e = le-leb 1 (suc n) (omega arith)
at_least_one (negsuc n) e = le-leb 1 (suc n) (omega arith)

one_or_more : (s : Span) (o : Option ℤ) → IfOk (at_least (pos 1) s o) (λ n. nat_le 1 n ≡ true)
one_or_more s (Some z) = demanded (λ (n : ℕ). nat_le 1 n ≡ true) (int_le (pos 1) z) s OutOfRange _ (λ e. at_least_one z e)
one_or_more s None = tt

abbrev pub AreSizes : List ℕ → Type 0
AreSizes sizes = list_all (λ size. nat_le 1 size) sizes ≡ true

if_ok : {A : Type 0} (r : Checked A) (P Q : A → Type 0) → ((a : A) → P a → Q a) → IfOk r P → IfOk r Q
if_ok (Ok a) P Q f h = f a h
if_ok r P Q f h = tt

pub sizes_kept : (numbers : List Term) → IfOk (in_turn block_one [] numbers) AreSizes
sizes_kept numbers =
    turns_keep (λ t. Unit {0}) AreSizes block_one
    (λ done t asked kept. if_ok (block_one done t) (λ n. nat_le 1 n ≡ true) (λ n. AreSizes (done ++ n ∷ []))
    (λ n e. list_all-append (λ size. nat_le 1 size) done (n ∷ []) ∙ and_from (list_all (λ size. nat_le 1 size) done) (nat_le 1 n && true) kept (ap (λ b. b && true) e))
    (one_or_more (span_of t) (number_in t)))
    [] numbers (nothing_asked numbers) refl

module _ (s : Span) (source : Schema) (is_valid : IsValid source) where
  parts : ValidParts source
  parts = valid_parts source is_valid

  alone : are_distinct (dimension_names source.dimensions) ≡ true
  alone = (distinct_front (attribute_names source.attributes) (dimension_names source.dimensions) parts.distinct).1

  one : 1 ≤ length source.dimensions
  one = leb-true 1 (length source.dimensions) (and_parts (nat_le 1 (length source.dimensions)) (nat_le (length source.dimensions) 6) parts.dimensions).0

  abbrev Fit : List (List ℕ) → List Aggregate → Type 0
  Fit names = Kept s source.attributes names

  gs_kept : (names : List (List ℕ)) (arguments : List Term) (gs : List Aggregate) → are_distinct names ≡ true → aggregates_of s source.attributes names arguments ≡ Ok gs → Fit names gs
  gs_kept names arguments gs apart e = of_answer (Fit names) (aggregates_of s source.attributes names arguments) gs (aggregates_kept s source.attributes names arguments apart) e

  gs_some : (names : List (List ℕ)) (arguments : List Term) (gs : List Aggregate) → 1 ≤ length arguments → aggregates_of s source.attributes names arguments ≡ Ok gs → 1 ≤ length gs
  gs_some names arguments gs some e =
      let count : length gs ≡ 0 + length arguments = turns_count (aggregate_one s source.attributes names) [] arguments gs e in
      omega (arith, some, count)

  -- regrid

  pub record BlocksFit (p : Blocks) : Type 0 where
    pub fit : (are_blocks_of source p.sizes && are_aggregates_of source.attributes p.aggregates) ≡ true
    pub valid : IsWithin (regrid_schema p.sizes p.aggregates source) → IsValid (regrid_schema p.sizes p.aggregates source)

  with_sizes : (arguments : List Term) (sizes : List ℕ) → 1 ≤ length arguments → length sizes ≡ length source.dimensions → AreSizes sizes → IfOk (with_blocks s source arguments sizes) BlocksFit
  with_sizes arguments sizes some count all =
      let names = dimension_names source.dimensions in
      thens BlocksFit (aggregates_of s source.attributes names arguments) _ (λ gs e.
      let kept = gs_kept names arguments gs alone e in
      let dims = by_pairs in_blocks source.dimensions sizes in
      record {
        fit = and_from (are_blocks_of source sizes) (are_aggregates_of source.attributes gs)
            (and_from (length sizes == length source.dimensions) (list_all (λ size. nat_le 1 size) sizes) (eq-eqb (length sizes) (length source.dimensions) count) all) kept.fit;
        valid = λ within. made_valid source.attributes gs dims (gs_some names arguments gs some e) (omega (arith, one, block_count source.dimensions sizes count))
            (ap (λ (ns : List (List ℕ)). are_distinct (aggregate_names gs ++ ns)) (block_names source.dimensions sizes count) ∙ kept.distinct) (all_blocks_fit source.dimensions sizes parts.each) within;
      })

  pub regrid_fits : (arguments : List Term) → IfOk (regrid_parts s source arguments) BlocksFit
  regrid_fits arguments =
      let numbers = front is_number arguments in
      let aggregates = behind is_number arguments in
      unless_ok BlocksFit (first_but is_aggregate aggregates) _
      (demanded BlocksFit ((length numbers == length source.dimensions) && nat_le 1 (length aggregates)) s WrongCount _ (λ c.
      let counts = and_parts (length numbers == length source.dimensions) (nat_le 1 (length aggregates)) c in
      thens BlocksFit (in_turn block_one [] numbers) _ (λ sizes e.
      let count : length sizes ≡ 0 + length numbers = turns_count block_one [] numbers sizes e in
      with_sizes aggregates sizes (leb-true 1 (length aggregates) counts.1) (omega (arith, count, eqb-true (length numbers) (length source.dimensions) counts.0))
      (of_answer AreSizes (in_turn block_one [] numbers) sizes (sizes_kept numbers) e))))

  -- windows

  pub record WindowsFit (p : Windows) : Type 0 where
    pub fit : (are_windows_of source p.reach && are_aggregates_of source.attributes p.aggregates) ≡ true
    pub valid : IsWithin (window_schema p.aggregates source) → IsValid (window_schema p.aggregates source)

  with_windows : (arguments : List Term) (reach : List Reach) → 1 ≤ length arguments → IfOk (with_reach s source arguments reach) WindowsFit
  with_windows arguments reach some =
      let names = dimension_names source.dimensions in
      demanded WindowsFit (are_windows_of source reach) s WindowTooLarge _ (λ small.
      thens WindowsFit (aggregates_of s source.attributes names arguments) _ (λ gs e.
      let kept = gs_kept names arguments gs alone e in
      record {
        fit = and_from (are_windows_of source reach) (are_aggregates_of source.attributes gs) small kept.fit;
        valid = λ within. made_valid source.attributes gs source.dimensions (gs_some names arguments gs some e) one kept.distinct parts.each within;
      }))

  pub window_fits : (arguments : List Term) → IfOk (window_parts s source arguments) WindowsFit
  window_fits arguments =
      let numbers = front is_number arguments in
      let aggregates = behind is_number arguments in
      unless_ok WindowsFit (first_but is_aggregate aggregates) _
      (demanded WindowsFit ((length numbers == 2 * length source.dimensions) && nat_le 1 (length aggregates)) s WrongCount _ (λ c.
      let counts = and_parts (length numbers == 2 * length source.dimensions) (nat_le 1 (length aggregates)) c in
      thens WindowsFit (pairs_in_turn reach_one [] numbers) _ (λ reach e.
      with_windows aggregates reach (leb-true 1 (length aggregates) counts.1))))

  -- groups

  pub record GroupsFit (p : Groups) : Type 0 where
    pub fit : (are_below (length source.dimensions) p.places && are_aggregates_of source.attributes p.aggregates) ≡ true
    pub valid : IsWithin (aggregate_schema p.aggregates p.places source) → IsValid (aggregate_schema p.aggregates p.places source)

  -- the dimensions of groups
  record Dimensions (places : List ℕ) : Type 0 where
    distinct : are_distinct (dimension_names (group_dimensions places source.dimensions)) ≡ true
    each : list_all is_dimension (group_dimensions places source.dimensions) ≡ true
    some : 1 ≤ length (group_dimensions places source.dimensions)

  of_groups : (places : List ℕ) → Named source.dimensions alone parts.each places → Dimensions places
  of_groups [] named = record { distinct = refl; each = refl; some = omega arith }
  of_groups (p ∷ places) named = record { distinct = named.distinct; each = named.each; some = omega (arith, named.count) }

  with_groups : (arguments : List Term) (places : List ℕ) → 1 ≤ length arguments → Named source.dimensions alone parts.each places → IfOk (with_places s source arguments places) GroupsFit
  with_groups arguments places some named =
      let dims = group_dimensions places source.dimensions in
      let of = of_groups places named in
      thens GroupsFit (aggregates_of s source.attributes (dimension_names dims) arguments) _ (λ gs e.
      let kept = gs_kept (dimension_names dims) arguments gs of.distinct e in
      record {
        fit = and_from (are_below (length source.dimensions) places) (are_aggregates_of source.attributes gs) named.below kept.fit;
        valid = λ within. made_valid source.attributes gs dims (gs_some (dimension_names dims) arguments gs some e) of.some kept.distinct of.each within;
      })

  pub aggregate_fits : (arguments : List Term) → IfOk (aggregate_parts s source arguments) GroupsFit
  aggregate_fits arguments =
      let aggregates = front is_aggregate arguments in
      let names = behind is_aggregate arguments in
      unless_ok GroupsFit (first_but is_name names) _
      (demanded GroupsFit (nat_le 1 (length aggregates)) s WrongCount _ (λ c.
      thens GroupsFit (in_turn (dimension_one source.dimensions) [] names) _ (λ places e.
      with_groups aggregates places (leb-true 1 (length aggregates) c)
      (of_answer (Named source.dimensions alone parts.each) (in_turn (dimension_one source.dimensions) [] names) places (places_named source.dimensions alone parts.each names) e))))

  -- lines

  pub record CumulationFits (p : Cumulation) : Type 0 where
    pub fit : cumulates source p.aggregates p.dimension ≡ true
    pub valid : IsWithin (cumulate_schema p.aggregates source) → IsValid (cumulate_schema p.aggregates source)

  line_below : (names : List Term) → IfOk (along source.dimensions names) (λ n. nat_lt n (length source.dimensions) ≡ true)
  line_below [] = lt-ltb 0 (length source.dimensions) one
  line_below (name ∷ names) = one_below source.dimensions [] name

  with_line : (arguments : List Term) (n : ℕ) → 1 ≤ length arguments → nat_lt n (length source.dimensions) ≡ true → IfOk (along_line s source arguments n) CumulationFits
  with_line arguments n some below =
      let names = dimension_names source.dimensions in
      thens CumulationFits (aggregates_of s source.attributes names arguments) _ (λ gs e.
      let kept = gs_kept names arguments gs alone e in
      record {
        fit = and_from (are_aggregates_of source.attributes gs) (nat_lt n (length source.dimensions)) kept.fit below;
        valid = λ within. made_valid source.attributes gs source.dimensions (gs_some names arguments gs some e) one kept.distinct parts.each within;
      })

  pub cumulate_fits : (arguments : List Term) → IfOk (cumulate_parts s source arguments) CumulationFits
  cumulate_fits arguments =
      let aggregates = front is_aggregate arguments in
      let names = behind is_aggregate arguments in
      unless_ok CumulationFits (first_but_last_name names) _
      (demanded CumulationFits (nat_le 1 (length aggregates)) s WrongCount _ (λ c.
      thens CumulationFits (along source.dimensions names) _ (λ n e.
      with_line aggregates n (leb-true 1 (length aggregates) c)
      (of_answer (λ n. nat_lt n (length source.dimensions) ≡ true) (along source.dimensions names) n (line_below names) e))))
