-- What holds where the rules of `merge` and `concat` do: the sources fit each other, and the schema of the result is valid where it is within
-- the limits.
use Rattle.std.proofs.Common.{◌≡◌, ℕ, suc, ℤ, pos, ◌+ℤ◌, ◌≤ℤ◌, true, ◌&&◌, Ok, List, [], ◌∷◌, ◌++◌, length, refl, ap, ◌∙◌, arith}
use Rattle.std.specs.Prelude.{nat_le}
use Rattle.std.specs.List.{list_all}
use Rattle.std.proofs.lemmas.Bool.{and_parts, and_from}
use Rattle.std.proofs.lemmas.Int.{ints}
use Rattle.cell_values.specs.declared.name.Span.{Span}
use Rattle.cell_values.specs.declared.schema.Attribute.{Attribute}
use Rattle.cell_values.specs.declared.schema.Dimension.{Dimension}
use Rattle.cell_values.specs.declared.schema.Schema.{Schema}
use Rattle.cell_values.specs.Schemas.{IsValid, attribute_names, dimension_names, are_distinct, is_dimension}
use Rattle.schema_grammar.specs.Rules.{rule}
use Rattle.schema_grammar.specs.declared.kinds.TypeKind.TheVariants.{BoundsDiffer, BoundsRange, NotBounded, SchemaDiffers}
use Rattle.schema_grammar.specs.declared.rules.Rule.{Rule}
use Rattle.array_rows.specs.Boxes.{by_pairs}
use Rattle.expr_nulls.specs.Typing.{same_kind}
use Rattle.logical_plan.specs.ShapeSchemas.{concat_schema, either_of, length_of, lengthened, merge_schema, with_high}
use Rattle.logical_plan.specs.Typing.{can_follow, concatenates, is_bounded, merges, same_bounds, same_kinds}
use Rattle.check_rules.proofs.OperatorsHolding.{IsWithin}
use Rattle.check_rules.proofs.ValidSchemas.{ValidParts, valid_parts, valid_of_parts}
use Rattle.check_shapes.specs.Pairs.{fits_behind, concat_rules, ends_first, has_room_behind, merge_rules, same_rest}
use Rattle.check_shapes.specs.Tables.{all_hold}
use Rattle.check_shapes.proofs.HighBounds.{high_fits, in_order}
use Rattle.check_shapes.proofs.Holding.{first_holds}

either_names : (left right : List Attribute) → same_kinds left right ≡ true → attribute_names (by_pairs either_of left right) ≡ attribute_names left
either_names [] [] e = refl
either_names [] (b ∷ right) e = cc
either_names (a ∷ left) [] e = cc
either_names (a ∷ left) (b ∷ right) e =
    ap (λ (ns : List (List ℕ)). a.name ∷ ns) (either_names left right (and_parts (same_kind a.kind b.kind) (same_kinds left right) e).1)

either_count : (left right : List Attribute) → same_kinds left right ≡ true → length (by_pairs either_of left right) ≡ length left
either_count [] [] e = refl
either_count [] (b ∷ right) e = cc
either_count (a ∷ left) [] e = cc
either_count (a ∷ left) (b ∷ right) e = ap suc (either_count left right (and_parts (same_kind a.kind b.kind) (same_kinds left right) e).1)

-- the left's first dimension with the right's behind it

longer_names : (left right : List Dimension) → dimension_names (lengthened left right) ≡ dimension_names left
longer_names [] right = refl
longer_names (l ∷ left) [] = refl
longer_names (l ∷ left) (r ∷ right) = refl

longer_count : (left right : List Dimension) → length (lengthened left right) ≡ length left
longer_count [] right = refl
longer_count (l ∷ left) [] = refl
longer_count (l ∷ left) (r ∷ right) = refl

farther : (d : Dimension) (n : ℕ) → d.lo ≤ℤ d.hi → d.lo ≤ℤ (d.hi +ℤ pos n)
farther d n order = omega (arith, ints, order)

all_longer : (left right : List Dimension) → has_room_behind left right ≡ true → list_all is_dimension left ≡ true → list_all is_dimension (lengthened left right) ≡ true
all_longer [] right room all = all
all_longer (l ∷ left) [] room all = all
all_longer (l ∷ left) (r ∷ right) room all =
    let p = and_parts (is_dimension l) (list_all is_dimension left) all in
    let z : ℤ = l.hi +ℤ pos (length_of r) in
    and_from (is_dimension (with_high l z)) (list_all is_dimension left) (high_fits l z p.0 (farther l (length_of r) (in_order l p.0)) room) p.1

follows : (left right : List Dimension) → ends_first left ≡ true → same_rest left right ≡ true → has_room_behind left right ≡ true → can_follow left right ≡ true
follows [] right ends rest room = cc
follows (l ∷ left) [] ends rest room = cc
follows (l ∷ left) (r ∷ right) ends rest room = and_from (is_bounded l && fits_behind l r) (same_bounds left right) (and_from (is_bounded l) (fits_behind l r) ends room) rest

module _ (s : Span) (left right : Schema) (left_valid : IsValid left) where
  parts : ValidParts left
  parts = valid_parts left left_valid

  abbrev both : List Attribute
  both = by_pairs either_of left.attributes right.attributes

  pair_valid : (dims : List Dimension) → same_kinds left.attributes right.attributes ≡ true → length dims ≡ length left.dimensions → dimension_names dims ≡ dimension_names left.dimensions
      → list_all is_dimension dims ≡ true → IsWithin (record { attributes = both; dimensions = dims }) → IsValid (record { attributes = both; dimensions = dims })
  pair_valid dims kinds count names each within =
      valid_of_parts (record { attributes = both; dimensions = dims }) (record {
        attributes = ap (λ n. nat_le 1 n && nat_le n 64) (either_count left.attributes right.attributes kinds) ∙ parts.attributes;
        dimensions = ap (λ n. nat_le 1 n && nat_le n 6) count ∙ parts.dimensions;
        distinct = ap (λ (ns : List (List ℕ)). are_distinct (ns ++ dimension_names dims)) (either_names left.attributes right.attributes kinds)
            ∙ ap (λ (ns : List (List ℕ)). are_distinct (attribute_names left.attributes ++ ns)) names ∙ parts.distinct;
        each = each;
        frames = within.frames;
      })

  pub record MergeFits : Type 0 where
    pub fit : merges left right ≡ true
    pub valid : IsWithin (merge_schema left right) → IsValid (merge_schema left right)

  pub merge_fits : (done : Unit {0}) → all_hold (merge_rules s left right) ≡ Ok done → MergeFits
  merge_fits done e =
      let bounds = same_bounds left.dimensions right.dimensions in
      let kinds = same_kinds left.attributes right.attributes in
      let second : List Rule = rule kinds s SchemaDiffers ∷ [] in
      let p = first_holds (rule bounds s BoundsDiffer) second done e in
      let q = first_holds (rule kinds s SchemaDiffers) [] done p.1 in
      record {
        fit = and_from bounds kinds p.0 q.0;
        valid = λ within. pair_valid left.dimensions q.0 refl refl parts.each within;
      }

  pub record ConcatFits : Type 0 where
    pub fit : concatenates left right ≡ true
    pub valid : IsWithin (concat_schema left right) → IsValid (concat_schema left right)

  pub concat_fits : (at : Span) (done : Unit {0}) → all_hold (concat_rules s at left right) ≡ Ok done → ConcatFits
  concat_fits at done e =
      let ends = ends_first left.dimensions in
      let rest = same_rest left.dimensions right.dimensions in
      let kinds = same_kinds left.attributes right.attributes in
      let room = has_room_behind left.dimensions right.dimensions in
      let fourth : List Rule = rule room s BoundsRange ∷ [] in
      let third : List Rule = rule kinds s SchemaDiffers ∷ fourth in
      let second : List Rule = rule rest s BoundsDiffer ∷ third in
      let p = first_holds (rule ends at NotBounded) second done e in
      let q = first_holds (rule rest s BoundsDiffer) third done p.1 in
      let r = first_holds (rule kinds s SchemaDiffers) fourth done q.1 in
      let t = first_holds (rule room s BoundsRange) [] done r.1 in
      record {
        fit = and_from (can_follow left.dimensions right.dimensions) kinds (follows left.dimensions right.dimensions p.0 q.0 t.0) r.0;
        valid = λ within. pair_valid (lengthened left.dimensions right.dimensions) r.0 (longer_count left.dimensions right.dimensions) (longer_names left.dimensions right.dimensions)
            (all_longer left.dimensions right.dimensions t.0 parts.each) within;
      }
