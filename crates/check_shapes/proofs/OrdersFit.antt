-- What holds of the parts of `sort` and `rank`: they fit the source, and the schema of the result is valid where it is within the limits.
use Rattle.std.proofs.Common.{◌≡◌, ℕ, ◌+◌, ◌<◌, ◌≤◌, true, false, not, ◌&&◌, ◌||◌, ◌⊎◌, inl, inr, Option, Some, None, IfOk, List, [], ◌∷◌, ◌++◌, length, refl, sym, ap, subst, ◌∙◌, arith}
use Rattle.std.specs.Prelude.{codes, nat_le, slice_get, get_or}
use Rattle.std.specs.List.{cons_option}
use Rattle.std.specs.Option.{option_map}
use Rattle.std.specs.Str.{bytes_eq}
use Rattle.std.proofs.lemmas.Bool.{and_parts, and_from, or_parts, not-true, leb-true, le-leb}
use Rattle.std.proofs.lemmas.List.{append-nil, length-append, length-map, take_all}
use Rattle.std.proofs.lemmas.List.Quantifiers.{position-Some}
use Rattle.std.proofs.lemmas.Option.{slice_get-map, slice_get_cases}
use Rattle.std.proofs.lemmas.Slice.Eq.{bytes_eq-Decides}
use Rattle.cell_values.specs.declared.name.Span.{Span}
use Rattle.cell_values.specs.declared.schema.Attribute.{Attribute}
use Rattle.cell_values.specs.declared.schema.Kind.TheVariants.{Int64}
use Rattle.cell_values.specs.declared.schema.Schema.{Schema}
use Rattle.cell_values.specs.Schemas.{IsValid, attribute_names, dimension_names, is_among, are_distinct}
use Rattle.schema_grammar.specs.declared.kinds.TypeKind.TheVariants.{NameTooLong, RepeatedName, WrongCount, WrongType}
use Rattle.afl_trees.specs.Term.{Term, reference}
use Rattle.logical_plan.specs.PlanSchema.{derived, free_name, rank_name, rank_schema, sort_schema, with_rank}
use Rattle.logical_plan.specs.Typing.{are_apart, are_below, are_keys_of, can_be_ranked, ranks}
use Rattle.check_rules.specs.Checked.{Checked}
use Rattle.check_rules.proofs.RulesHolding.{demanded, thens, of_answer}
use Rattle.check_rules.specs.InTurn.{in_turn}
use Rattle.check_rules.specs.Sorts.{is_name, first_but, unless_other}
use Rattle.check_rules.proofs.OperatorsHolding.{IsWithin}
use Rattle.check_rules.proofs.Names.{apart_behind, differ_back, distinct_between, distinct_front}
use Rattle.check_rules.proofs.Turns.{turns_count}
use Rattle.check_rules.proofs.ValidSchemas.{ValidParts, valid_parts, valid_of_parts}
use Rattle.check_exprs.specs.Expressions.{attribute_place}
use Rattle.check_cellwise.specs.Project.{projected_one}
use Rattle.check_groups.specs.Names.{dimension_one, short_name}
use Rattle.check_joins.proofs.Distinct.{name_free}
use Rattle.check_shapes.specs.Numbered.{numbered_schema}
use Rattle.check_shapes.specs.Rank.{has_order, rank_first, rank_name_fits, rank_of, rank_parts, ranked_place}
use Rattle.check_shapes.specs.Sort.{number_name, sort_parts, sorted_schema}
use Rattle.check_shapes.specs.declared.rank.Ranking.{Ranking}
use Rattle.check_shapes.specs.declared.sort.SortKeys.{SortKeys}
use Rattle.check_shapes.proofs.NumberedFit.{numbered_valid}
use Rattle.check_shapes.proofs.Places.{AreOnce, attributes_once, dimensions_once}

unless_ok : {A : Type 0} (P : A → Type 0) (o : Option Span) (next : Checked A) → IfOk next P → IfOk (unless_other o next) P
unless_ok P None next h = h
unless_ok P (Some s) next h = tt

-- the attribute of a name
found_at : (attributes : List Attribute) (name : List ℕ) (place : ℕ) → attribute_place attributes name ≡ Some place → (a : Attribute) × (slice_get attributes place ≡ Some a) × (a.name ≡ name)
found_at attributes name place e = by_cases (slice_get_cases attributes place).1
  where
    by_cases : (((x : Attribute) × (place < length attributes) × (slice_get attributes place ≡ Some x) × (get_or attributes place x ≡ x)) ⊎ ((length attributes ≤ place) × (slice_get attributes place ≡ None)))
        → (a : Attribute) × (slice_get attributes place ≡ Some a) × (a.name ≡ name)
    by_cases (inl (x, h, is, same)) =
        let passes : bytes_eq (get_or attributes place x).name name ≡ true = (position-Some (λ (a : Attribute). bytes_eq a.name name) attributes place x e).1 in
        (x, is, (bytes_eq-Decides x.name name).0 (sym (ap (λ (a : Attribute). bytes_eq a.name name) same) ∙ passes))
    by_cases (inr (past, none)) =
        let fits = (position-Some (λ (a : Attribute). bytes_eq a.name name) attributes place (record { name = []; kind = Int64; nullable = false }) e).0 in
        absurd (omega (arith, past, fits))

module _ (s : Span) (source : Schema) (is_valid : IsValid source) where
  parts : ValidParts source
  parts = valid_parts source is_valid

  some : 1 ≤ length source.attributes
  some = leb-true 1 (length source.attributes) (and_parts (nat_le 1 (length source.attributes)) (nat_le (length source.attributes) 64) parts.attributes).0

  few : length source.attributes ≤ 64
  few = leb-true (length source.attributes) 64 (and_parts (nat_le 1 (length source.attributes)) (nat_le (length source.attributes) 64) parts.attributes).1

  alone : (are_distinct (attribute_names source.attributes) ≡ true) × (are_distinct (dimension_names source.dimensions) ≡ true)
  alone = distinct_front (attribute_names source.attributes) (dimension_names source.dimensions) parts.distinct

  -- sort

  pub record SortFits (p : SortKeys) : Type 0 where
    pub keys : are_keys_of source.attributes p.keys ≡ true
    pub schema : p.schema ≡ sort_schema source
    pub valid : IsWithin p.schema → IsValid p.schema

  abbrev free : List ℕ
  free = free_name (attribute_names source.attributes) (codes "n")

  is_new : is_among free (attribute_names source.attributes) ≡ false
  is_new = name_free (attribute_names source.attributes) (codes "n") (omega (arith, few, length-map source.attributes (λ (a : Attribute). a.name)))

  free_distinct : are_distinct (attribute_names source.attributes ++ free ∷ []) ≡ true
  free_distinct =
      distinct_between (attribute_names source.attributes) [] free (ap are_distinct (append-nil (attribute_names source.attributes)) ∙ alone.0) is_new refl

  are_numbered : IfOk (sorted_schema s source) (λ schema. schema ≡ numbered_schema source.attributes free)
  are_numbered =
      thens (λ schema. schema ≡ numbered_schema source.attributes free) (number_name s source.attributes) _ (λ name e.
      ap (numbered_schema source.attributes) (of_answer (λ (n : List ℕ). n ≡ free) (number_name s source.attributes) name
      (demanded (λ (n : List ℕ). n ≡ free) (nat_le (length free) 64) s NameTooLong _ (λ short. refl)) e))

  pub sort_fits : (names : List Term) → IfOk (sort_parts s source names) SortFits
  sort_fits names =
      let n = length source.attributes in
      demanded SortFits (nat_le 1 (length names)) s WrongCount _ (λ one.
      unless_ok SortFits (first_but is_name names) _
      (thens SortFits (in_turn (projected_one source.attributes) [] names) _ (λ keys e.
      thens SortFits (sorted_schema s source) _ (λ schema f.
      let count : length keys ≡ 0 + length names = turns_count (projected_one source.attributes) [] names keys e in
      let once : AreOnce n keys = of_answer (AreOnce n) (in_turn (projected_one source.attributes) [] names) keys (attributes_once source.attributes names) e in
      let same : schema ≡ numbered_schema source.attributes free = of_answer (λ x. x ≡ numbered_schema source.attributes free) (sorted_schema s source) schema are_numbered f in
      record {
        keys = and_from (nat_le 1 (length keys) && are_below n keys) (are_apart keys)
            (and_from (nat_le 1 (length keys)) (are_below n keys) (le-leb 1 (length keys) (omega (arith, count, leb-true 1 (length names) one))) once.below) once.apart;
        schema = same;
        valid = λ within. subst IsValid (sym same) (numbered_valid source.attributes free some free_distinct (subst IsWithin same within));
      }))))

  -- rank

  pub record RankFits (p : Ranking) : Type 0 where
    pub fit : ranks source p.attribute p.dimensions ≡ true
    pub valid : IsWithin (rank_schema p.attribute source) → IsValid (rank_schema p.attribute source)

  -- the attribute whose values are ranked
  record Ranked (name : List ℕ) (place : ℕ) : Type 0 where
    attribute : Attribute
    here : slice_get source.attributes place ≡ Some attribute
    named : attribute.name ≡ name
    order : has_order (Some attribute) ≡ true

  ranked_at : (at : Span) (name : List ℕ) (o : Option ℕ) → attribute_place source.attributes name ≡ o → IfOk (ranked_place source.attributes at o) (Ranked name)
  ranked_at at name None e = tt
  ranked_at at name (Some place) e =
      let found = found_at source.attributes name place e in
      demanded (Ranked name) (has_order (slice_get source.attributes place)) at WrongType _ (λ order. record {
        attribute = found.0;
        here = found.1;
        named = found.2;
        order = subst (λ (o : Option Attribute). has_order o ≡ true) found.1 order;
      })

  -- the name of the rank is new
  record IsNew (name : List ℕ) : Type 0 where
    short : length (name ++ codes "_rank") ≤ 64
    other : bytes_eq (name ++ codes "_rank") name ≡ false
    apart : is_among (name ++ codes "_rank") (dimension_names source.dimensions) ≡ false

  name_new : (at : Span) (name : List ℕ) → IfOk (rank_name_fits s at source.dimensions name) (λ done. IsNew name)
  name_new at name =
      let rank = name ++ codes "_rank" in
      let names = dimension_names source.dimensions in
      let Named : List ℕ → Type 0 = λ r. (r ≡ rank) × (length rank ≤ 64) in
      thens (λ done. IsNew name) (short_name s rank) _ (λ r e.
      let is : Named r = of_answer Named (short_name s rank) r (demanded Named (nat_le (length rank) 64) s NameTooLong _ (λ short. (refl, leb-true (length rank) 64 short))) e in
      demanded (λ done. IsNew name) (not (is_among r (name ∷ names))) at RepeatedName _ (λ fresh.
      let both = or_parts (bytes_eq rank name) (is_among rank names) (not-true (is_among rank (name ∷ names)) (subst (λ (x : List ℕ). not (is_among x (name ∷ names)) ≡ true) is.0 fresh)) in
      record { short = is.1; other = both.0; apart = both.1 }))

  name_at : (place : ℕ) (a : Attribute) → slice_get source.attributes place ≡ Some a → slice_get (attribute_names source.attributes) place ≡ Some a.name
  name_at place a e = slice_get-map (λ (x : Attribute). x.name) source.attributes place ∙ ap (λ o. option_map (λ (x : Attribute). x.name) o) e

  pair_distinct : (n r : List ℕ) (names : List (List ℕ)) → bytes_eq n r ≡ false → is_among n names ≡ false → is_among r names ≡ false → are_distinct names ≡ true → are_distinct (n ∷ r ∷ names) ≡ true
  pair_distinct n r names other first second rest =
      and_from (not (bytes_eq n r || is_among n names)) (not (is_among r names) && are_distinct names)
      (ap (λ b. not (b || is_among n names)) other ∙ ap not first) (and_from (not (is_among r names)) (are_distinct names) (ap not second) rest)

  rank_valid : (name : List ℕ) (place : ℕ) → Ranked name place → IsNew name → IsWithin (rank_schema place source) → IsValid (rank_schema place source)
  rank_valid name place ranked new within =
      let a = ranked.attribute in
      let made : Schema = record { attributes = a ∷ derived (rank_name a.name) Int64 ∷ []; dimensions = source.dimensions } in
      let same : rank_schema place source ≡ made = ap (λ (o : Option Attribute). record { attributes = with_rank (cons_option o []); dimensions = source.dimensions }) ranked.here in
      let rank = a.name ++ codes "_rank" in
      let short : length rank ≤ 64 = subst (λ (n : List ℕ). length (n ++ codes "_rank") ≤ 64) (sym ranked.named) new.short in
      let whole : rank_name a.name ≡ rank = take_all 64 rank short in
      let names = dimension_names source.dimensions in
      let other : bytes_eq rank a.name ≡ false = subst (λ (n : List ℕ). bytes_eq (n ++ codes "_rank") n ≡ false) (sym ranked.named) new.other in
      let apart : is_among rank names ≡ false = subst (λ (n : List ℕ). is_among (n ++ codes "_rank") names ≡ false) (sym ranked.named) new.apart in
      let first : is_among a.name names ≡ false = apart_behind (attribute_names source.attributes) names place a.name parts.distinct (name_at place a ranked.here) in
      let distinct : are_distinct (a.name ∷ rank ∷ names) ≡ true = pair_distinct a.name rank names (differ_back (bytes_eq a.name rank) rank a.name refl other) first apart alone.1 in
      subst IsValid (sym same) (valid_of_parts made (record {
        attributes = refl;
        dimensions = parts.dimensions;
        distinct = ap (λ (r : List ℕ). are_distinct (a.name ∷ r ∷ names)) whole ∙ distinct;
        each = parts.each;
        frames = parts.frames;
      }))

  rank_fit : (name : List ℕ) (place : ℕ) (dims : List ℕ) → Ranked name place → IsNew name → AreOnce (length source.dimensions) dims → ranks source place dims ≡ true
  rank_fit name place dims ranked new once =
      let a = ranked.attribute in
      let m = length source.dimensions in
      let short : length a.name + 5 ≤ 64 = omega (arith, new.short, length-append name (codes "_rank"), ap length ranked.named) in
      let can : can_be_ranked (slice_get source.attributes place) ≡ true
      = ap can_be_ranked ranked.here ∙ and_from (has_order (Some a)) (nat_le (length a.name + 5) 64) ranked.order (le-leb (length a.name + 5) 64 short) in
      and_from (can_be_ranked (slice_get source.attributes place) && are_below m dims) (are_apart dims)
      (and_from (can_be_ranked (slice_get source.attributes place)) (are_below m dims) can once.below) once.apart

  of_fits : (at : Span) (name : List ℕ) (names : List Term) → IfOk (rank_of s source at name names) RankFits
  of_fits at name names =
      let m = length source.dimensions in
      unless_ok RankFits (first_but is_name names) _
      (thens RankFits (ranked_place source.attributes at (attribute_place source.attributes name)) _ (λ place e.
      thens RankFits (in_turn (dimension_one source.dimensions) [] names) _ (λ dims f.
      thens RankFits (rank_name_fits s at source.dimensions name) _ (λ done g.
      let ranked : Ranked name place = of_answer (Ranked name) (ranked_place source.attributes at (attribute_place source.attributes name)) place (ranked_at at name (attribute_place source.attributes name) refl) e in
      let once : AreOnce m dims = of_answer (AreOnce m) (in_turn (dimension_one source.dimensions) [] names) dims (dimensions_once source.dimensions names) f in
      let new : IsNew name = of_answer (λ done. IsNew name) (rank_name_fits s at source.dimensions name) done (name_new at name) g in
      record { fit = rank_fit name place dims ranked new once; valid = λ within. rank_valid name place ranked new within }))))

  first_fits : (t : Term) (names : List Term) → IfOk (rank_first s source t names) RankFits
  first_fits (reference at name) names = of_fits at name names
  first_fits t names = tt

  pub rank_fits : (names : List Term) → IfOk (rank_parts s source names) RankFits
  rank_fits [] = tt
  rank_fits (t ∷ names) = first_fits t names
