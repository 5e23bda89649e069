-- What `project` chooses: attributes that there are, with names that are all different.
use Rattle.std.proofs.Common.{◌≡◌, ◌⊎◌, inl, inr, ℕ, ◌+◌, ◌<◌, ◌≤◌, ◌==◌, Bool, true, false, not, ◌&&◌, List, [], ◌∷◌, ◌++◌, length, Option, Some, None, IfOk, refl, sym, ap, ◌∙◌, append_assoc, arith}
use Rattle.std.specs.Prelude.{slice_get, position, nat_lt, get_or}
use Rattle.std.specs.List.{list_any, cons_option}
use Rattle.std.specs.Option.{option_map}
use Rattle.std.specs.Str.{bytes_eq}
use Rattle.std.proofs.lemmas.Bool.{and_from, or_parts, not-true, lt-ltb, eq-eqb}
use Rattle.std.proofs.lemmas.List.{length-append, map-append}
use Rattle.std.proofs.lemmas.List.Elements.{filter_map-append}
use Rattle.std.proofs.lemmas.List.Folds.{list_all-append}
use Rattle.std.proofs.lemmas.List.Quantifiers.{position-Some}
use Rattle.std.proofs.lemmas.Option.{slice_get-map, slice_get_cases}
use Rattle.cell_values.specs.declared.name.Span.{Span}
use Rattle.cell_values.specs.declared.schema.Attribute.{Attribute}
use Rattle.cell_values.specs.declared.schema.Schema.{Schema}
use Rattle.cell_values.specs.Schemas.{attribute_names, dimension_names, is_among, are_distinct}
use Rattle.schema_grammar.specs.declared.kinds.TypeKind.TheVariants.{RepeatedName}
use Rattle.afl_trees.specs.Term.{Term, reference}
use Rattle.logical_plan.specs.BoxOps.{items_at}
use Rattle.logical_plan.specs.Typing.{are_below}
use Rattle.check_rules.proofs.RulesHolding.{demanded}
use Rattle.check_exprs.specs.Expressions.{attribute_place}
use Rattle.check_rules.specs.InTurn.{new_place}
use Rattle.check_rules.proofs.Names.{distinct_between, apart_behind, differ_at, or_none}
use Rattle.check_cellwise.specs.Project.{projected_one}

-- the item at a place that there is
at_place : (xs : List Attribute) (i : ℕ) → i < length xs → (x : Attribute) × (slice_get xs i ≡ Some x)
at_place xs i lt = by_cases (slice_get_cases xs i).1
  where
    by_cases : (((x : Attribute) × (i < length xs) × (slice_get xs i ≡ Some x) × (get_or xs i x ≡ x)) ⊎ ((length xs ≤ i) × (slice_get xs i ≡ None))) → (x : Attribute) × (slice_get xs i ≡ Some x)
    by_cases (inl (x, h, e, same)) = (x, e)
    by_cases (inr (past, none)) = absurd (omega (arith, lt, past))

position_below : {A : Type 0} (p : A → Bool) (xs : List A) (i : ℕ) → position p xs ≡ Some i → i < length xs
position_below p [] i e = cc
position_below p (x ∷ xs) i e = (position-Some p (x ∷ xs) i x e).0

module _ (source : Schema) (distinct : are_distinct (attribute_names source.attributes ++ dimension_names source.dimensions) ≡ true) (alone : are_distinct (attribute_names source.attributes) ≡ true) where
  abbrev Names : List ℕ → List (List ℕ)
  Names places = attribute_names (items_at places source.attributes)

  -- places below the number of attributes, of which the names differ among themselves and from those of the dimensions
  pub record Chosen (places : List ℕ) : Type 0 where
    pub below : are_below (length source.attributes) places ≡ true
    pub names : are_distinct (Names places ++ dimension_names source.dimensions) ≡ true
    pub count : length (items_at places source.attributes) ≡ length places

  name_at : (i : ℕ) (a : Attribute) → slice_get source.attributes i ≡ Some a → slice_get (attribute_names source.attributes) i ≡ Some a.name
  name_at i a e = slice_get-map (λ (attribute : Attribute). attribute.name) source.attributes i ∙ ap (λ o. option_map (λ (attribute : Attribute). attribute.name) o) e

  -- the name at a place is not among those at other places
  fresh : (done : List ℕ) (p : ℕ) (a : Attribute) → slice_get source.attributes p ≡ Some a → list_any (λ other. other == p) done ≡ false → is_among a.name (Names done) ≡ false
  fresh [] p a e none = refl
  fresh (q ∷ done) p a e none =
      let apart = or_parts (q == p) (list_any (λ other. other == p) done) none in
      by_item (slice_get source.attributes q) refl (λ same. absurd (true_false (q == p) (eq-eqb q p (sym same)) apart.0)) (fresh done p a e apart.1)
    where
      true_false : (b : Bool) → b ≡ true → b ≡ false → ⊥
      true_false b x y = cc

      by_item : (o : Option Attribute) → slice_get source.attributes q ≡ o → (p ≡ q → ⊥) → is_among a.name (Names done) ≡ false → is_among a.name (attribute_names (cons_option o (items_at done source.attributes))) ≡ false
      by_item None f apart rest = rest
      by_item (Some b) f apart rest =
          or_none (bytes_eq a.name b.name) (is_among a.name (Names done)) (differ_at (attribute_names source.attributes) p q a.name b.name alone apart (name_at p a e) (name_at q b f)) rest

  one_more : (done : List ℕ) (p : ℕ) (a : Attribute) → slice_get source.attributes p ≡ Some a → items_at (done ++ p ∷ []) source.attributes ≡ items_at done source.attributes ++ a ∷ []
  one_more done p a e =
      filter_map-append (slice_get source.attributes) done (p ∷ [])
      ∙ ap (λ (o : Option Attribute). items_at done source.attributes ++ cons_option o []) e

  with_place : (done : List ℕ) (p : ℕ) (a : Attribute) → slice_get source.attributes p ≡ Some a → p < length source.attributes → list_any (λ other. other == p) done ≡ false → Chosen done → Chosen (done ++ p ∷ [])
  with_place done p a e lt none chosen =
      let more = one_more done p a e in
      let named : Names (done ++ p ∷ []) ≡ Names done ++ a.name ∷ [] = ap attribute_names more ∙ map-append (λ (attribute : Attribute). attribute.name) (items_at done source.attributes) (a ∷ []) in
      let apart : is_among a.name (dimension_names source.dimensions) ≡ false = apart_behind (attribute_names source.attributes) (dimension_names source.dimensions) p a.name distinct (name_at p a e) in
      record {
        below = list_all-append (λ place. nat_lt place (length source.attributes)) done (p ∷ []) ∙ and_from (are_below (length source.attributes) done) (nat_lt p (length source.attributes) && true) chosen.below (ap (λ b. b && true) (lt-ltb p (length source.attributes) lt));
        names = ap (λ (xs : List (List ℕ)). are_distinct (xs ++ dimension_names source.dimensions)) named ∙ ap are_distinct (append_assoc (Names done) (a.name ∷ []) (dimension_names source.dimensions))
            ∙ distinct_between (Names done) (dimension_names source.dimensions) a.name chosen.names (fresh done p a e none) apart;
        count = ap length more ∙ length-append (items_at done source.attributes) (a ∷ []) ∙ ap (λ n. n + 1) chosen.count ∙ sym (length-append done (p ∷ []));
      }

  placed : (s : Span) (name : List ℕ) (done : List ℕ) (o : Option ℕ) → attribute_place source.attributes name ≡ o → Chosen done → IfOk (new_place s done o) (λ p. Chosen (done ++ p ∷ []))
  placed s name done None e chosen = tt
  placed s name done (Some p) e chosen =
      demanded (λ place. Chosen (done ++ place ∷ [])) (not (list_any (λ other. other == p) done)) s RepeatedName _ (λ fresh_place.
      let lt : p < length source.attributes = position_below (λ (attribute : Attribute). bytes_eq attribute.name name) source.attributes p e in
      let item = at_place source.attributes p lt in
      with_place done p item.0 item.1 lt (not-true (list_any (λ other. other == p) done) fresh_place) chosen)

  pub chooses : (done : List ℕ) (t : Term) → Chosen done → IfOk (projected_one source.attributes done t) (λ p. Chosen (done ++ p ∷ []))
  chooses done (reference s name) chosen = placed s name done (attribute_place source.attributes name) refl chosen
  chooses done t chosen = tt
