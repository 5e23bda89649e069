-- What `apply` adds: values of their kinds, under names that are new.
use Rattle.std.proofs.Common.{◌≡◌, ℕ, true, false, not, ◌&&◌, ◌||◌, List, [], ◌∷◌, ◌++◌, map, Option, Some, None, Ok, IfOk, IsTrue, refl, sym, ap, ◌∙◌, append_assoc}
use Rattle.std.specs.List.{list_any}
use Rattle.std.specs.Str.{bytes_eq}
use Rattle.std.proofs.lemmas.Bool.{and_from, or_parts, not-true}
use Rattle.std.proofs.lemmas.List.{map-append}
use Rattle.std.proofs.lemmas.List.Folds.{list_all-append}
use Rattle.cell_values.specs.declared.schema.Attribute.{Attribute}
use Rattle.cell_values.specs.declared.schema.Dimension.{Dimension}
use Rattle.cell_values.specs.declared.schema.Kind.{Kind}
use Rattle.cell_values.specs.declared.schema.Schema.{Schema}
use Rattle.cell_values.specs.Schemas.{attribute_names, dimension_names, names_of, is_among, are_distinct}
use Rattle.schema_grammar.specs.declared.kinds.TypeKind.TheVariants.{RepeatedName}
use Rattle.afl_trees.specs.Term.{Term, reference}
use Rattle.logical_plan.specs.PlanSchema.{derived, apply_schema}
use Rattle.logical_plan.specs.Typing.{is_over, is_null_alone, fits_apply}
use Rattle.logical_plan.specs.declared.parts.Applied.{Applied}
use Rattle.check_rules.proofs.RulesHolding.{demanded, thens}
use Rattle.check_exprs.specs.Expressions.{fits, typed}
use Rattle.check_exprs.specs.Laws.{leaves_fit}
use Rattle.check_exprs.proofs.KindLemmas.{typed_have_kinds, fits_self}
use Rattle.check_exprs.specs.declared.operand.Operand.{Operand}
use Rattle.check_rules.proofs.Names.{differ_back, distinct_between, among_neither}
use Rattle.check_cellwise.proofs.NullAlone.{kind_of_null}
use Rattle.check_cellwise.specs.Apply.{is_given, of_kind, named_value, applied_one}

-- a name that none of some things has is not among their names
not_among : {A : Type 0} (name_of : A → List ℕ) (xs : List A) (n : List ℕ) → list_any (λ x. bytes_eq (name_of x) n) xs ≡ false → is_among n (map name_of xs) ≡ false
not_among name_of [] n e = refl
not_among name_of (x ∷ xs) n e =
    let parts = or_parts (bytes_eq (name_of x) n) (list_any (λ x. bytes_eq (name_of x) n) xs) e in
    let apart : bytes_eq n (name_of x) ≡ false = differ_back (bytes_eq n (name_of x)) (name_of x) n refl parts.0 in
    ap (λ b. b || is_among n (map name_of xs)) apart ∙ not_among name_of xs n parts.1

names_derived : (values : List Applied) → attribute_names (map (λ (a : Applied). derived a.name a.kind) values) ≡ map (λ (a : Applied). a.name) values
names_derived [] = refl
names_derived (a ∷ values) = ap (λ ns. a.name ∷ ns) (names_derived values)

module _ (source : Schema) where
  abbrev before : List Applied → List (List ℕ)
  before done = attribute_names (source.attributes ++ map (λ (a : Applied). derived a.name a.kind) done)

  -- values over the source of their kinds, and names that are all different
  pub record Added (done : List Applied) : Type 0 where
    pub fit : fits_apply source done ≡ true
    pub names : are_distinct (names_of (apply_schema done source)) ≡ true

  new_name : (done : List Applied) (name : List ℕ) → is_given source done name ≡ false → (is_among name (before done) ≡ false) × (is_among name (dimension_names source.dimensions) ≡ false)
  new_name done name e =
      let attributes = list_any (λ (attribute : Attribute). bytes_eq attribute.name name) source.attributes in
      let dimensions = list_any (λ (dimension : Dimension). bytes_eq dimension.name name) source.dimensions in
      let others = list_any (λ (other : Applied). bytes_eq other.name name) done in
      let p = or_parts (attributes || dimensions) others e in
      let q = or_parts attributes dimensions p.0 in
      let split : before done ≡ attribute_names source.attributes ++ map (λ (a : Applied). a.name) done
      = map-append (λ (attribute : Attribute). attribute.name) source.attributes (map (λ (a : Applied). derived a.name a.kind) done) ∙ ap (λ ns. attribute_names source.attributes ++ ns) (names_derived done) in
      let first : is_among name (attribute_names source.attributes) ≡ false = not_among (λ (attribute : Attribute). attribute.name) source.attributes name q.0 in
      let last : is_among name (map (λ (a : Applied). a.name) done) ≡ false = not_among (λ (a : Applied). a.name) done name p.1 in (
        ap (is_among name) split ∙ among_neither name (attribute_names source.attributes) (map (λ (a : Applied). a.name) done) first last,
        not_among (λ (dimension : Dimension). dimension.name) source.dimensions name q.1,
      )

  with_value : (done : List Applied) (name : List ℕ) (x : Operand) (kind : Kind) → is_given source done name ≡ false → IsTrue (is_over source kind x.expr) → is_null_alone x.expr ≡ false → Added done
      → Added (done ++ record { name = name; kind = kind; value = x.expr } ∷ [])
  with_value done name x kind fresh over some added =
      let value : Applied = record { name = name; kind = kind; value = x.expr } in
      let new = new_name done name fresh in
      let grown : before (done ++ value ∷ []) ≡ before done ++ name ∷ []
      = ap (λ (xs : List Attribute). attribute_names (source.attributes ++ xs)) (map-append (λ (a : Applied). derived a.name a.kind) done (value ∷ []))
      ∙ ap attribute_names (sym (append_assoc source.attributes (map (λ (a : Applied). derived a.name a.kind) done) (derived name kind ∷ [])))
      ∙ map-append (λ (attribute : Attribute). attribute.name) (source.attributes ++ map (λ (a : Applied). derived a.name a.kind) done) (derived name kind ∷ []) in
      record {
        fit = list_all-append (λ (a : Applied). is_over source a.kind a.value && not (is_null_alone a.value)) done (value ∷ [])
            ∙ and_from (fits_apply source done) (is_over source kind x.expr && not (is_null_alone x.expr) && true) added.fit
            (and_from (is_over source kind x.expr && not (is_null_alone x.expr)) true (and_from (is_over source kind x.expr) (not (is_null_alone x.expr)) over (ap not some)) refl);
        names = ap (λ (ns : List (List ℕ)). are_distinct (ns ++ dimension_names source.dimensions)) grown
            ∙ ap are_distinct (append_assoc (before done) (name ∷ []) (dimension_names source.dimensions))
            ∙ distinct_between (before done) (dimension_names source.dimensions) name added.names new.0 new.1;
      }

  of_its_kind : (done : List Applied) (name : List ℕ) (e : Term) (x : Operand) (o : Option Kind) → IsTrue (leaves_fit e) → typed source.attributes source.dimensions e ≡ Ok x → is_given source done name ≡ false
      → x.kind ≡ o → Added done → IfOk (of_kind name x o) (λ z. Added (done ++ z ∷ []))
  of_its_kind done name e x None leaves t fresh k added = tt
  of_its_kind done name e x (Some kind) leaves t fresh k added =
      let fit : IsTrue (fits kind x.kind) = ap (fits kind) k ∙ fits_self kind in
      with_value done name x kind fresh (typed_have_kinds source.attributes source.dimensions e x leaves t kind fit) (kind_of_null source.attributes source.dimensions e x kind t k) added

  pub adds : (done : List Applied) (n e : Term) → IsTrue (leaves_fit e) → Added done → IfOk (applied_one source done n e) (λ z. Added (done ++ z ∷ []))
  adds done (reference s name) e leaves added =
      let Kept : Applied → Type 0 = λ z. Added (done ++ z ∷ []) in
      demanded Kept (not (is_given source done name)) s RepeatedName _ (λ fresh.
      thens Kept (typed source.attributes source.dimensions e) (named_value name) (λ x t.
      of_its_kind done name e x x.kind leaves t (not-true (is_given source done name) fresh) refl added))
  adds done n e leaves added = tt
