-- Answers whose rules are told by parts.
use Rattle.std.proofs.Common.{◌≡◌, List, [], ◌∷◌, ◌++◌, map, Option, Some, Result, Ok, Err, IsErrAnd, sym, ap, subst, ◌∙◌}
use Rattle.afl_lexer.specs.Schemas.{attribute_names}
use Rattle.afl_lexer.specs.Attribute.{Attribute}
use Rattle.afl_lexer.specs.Dimension.{Dimension}
use Rattle.afl_lexer.specs.Schema.{Schema}
use Rattle.afl_lexer.specs.Span.{Span}
use Rattle.schema_grammar.specs.declared.shape_text.SchemaText.{SchemaText}
use Rattle.schema_grammar.specs.declared.shape_text.AttrText.{AttrText}
use Rattle.schema_grammar.specs.declared.shape_text.DimText.{DimText}
use Rattle.schema_grammar.specs.declared.rules.Rule.{Rule}
use Rattle.schema_grammar.specs.declared.kinds.SchemaFault.{SchemaFault}
use Rattle.schema_grammar.specs.declared.kinds.SchemaFault.TheVariants as fault
use Rattle.schema_grammar.specs.Rules.{first_broken, attrs_rules, dims_rules, whole_rules, rules, attribute_of, dimension_of, schema_of, Means}
use Rattle.schema_grammar.proofs.RuleLemmas.{or_else, broken_then}

-- one rule more
pub one_more : {x y : Rule} {xs ys : List Rule} → x ≡ y → xs ≡ ys → x ∷ xs ≡ y ∷ ys
one_more {x} {y} {xs} {ys} e f = ap (λ r. r ∷ xs) e ∙ ap (λ l. y ∷ l) f

-- an answer that is another call's fault
pub means_err : {A : Type 0} (rules : List Rule) (meaning : A) (e : SchemaFault) (answer : Result A SchemaFault)
    → IsErrAnd answer (λ f. f ≡ e) → Means rules meaning (Err e) → Means rules meaning answer
means_err rules meaning e (Ok a) is h = absurd is
means_err rules meaning e (Err f) is h = subst (λ (g : SchemaFault). Means rules meaning (Err g)) (sym is) h

pub means_broken : {A : Type 0} (rules : List Rule) (meaning : A) (e : SchemaFault) → first_broken rules ≡ Some e → Means rules meaning (Err e)
means_broken rules meaning (fault.Rule span kind) h = h
means_broken rules meaning fault.Memory h = tt

-- the attributes' fault is that of the whole
pub first_err : (t : SchemaText) (texts : List AttrText) (e : SchemaFault) → texts ≡ t.attributes
    → Means (attrs_rules [] texts) (map attribute_of texts) (Err e) → Means (rules t) (schema_of t) (Err e)
first_err t texts fault.Memory p h = tt
first_err t texts (fault.Rule span kind) p h =
    let first = attrs_rules [] t.attributes in
    let second = dims_rules (attribute_names (map attribute_of t.attributes)) [] t.dimensions in
    let third = whole_rules (map attribute_of t.attributes) (map dimension_of t.dimensions) t.brackets in
    broken_then (first ++ second) third
    ∙ ap (λ o. or_else o (first_broken third))
    (broken_then first second ∙ ap (λ o. or_else o (first_broken second)) (ap (λ l. first_broken (attrs_rules [] l)) (sym p) ∙ h))

-- the rules of the whole, as a call comes to them
pub whole_told : (seen attributes : List Attribute) (dims dimensions : List Dimension) (brackets : Span) (told : List Rule) (answer : Option SchemaFault)
    → seen ≡ attributes → dims ≡ dimensions → told ≡ whole_rules seen dims brackets → answer ≡ first_broken told
    → first_broken (whole_rules attributes dimensions brackets) ≡ answer
whole_told seen attributes dims dimensions brackets told answer p q e f =
    ap (λ l. first_broken (whole_rules l dimensions brackets)) (sym p) ∙ ap (λ l. first_broken (whole_rules seen l brackets)) (sym q)
    ∙ ap first_broken (sym e) ∙ sym f

abbrev schema_with : List Attribute → List Dimension → Schema
schema_with attributes dimensions = record { attributes = attributes; dimensions = dimensions }

-- Where the rules of the attributes hold, the others decide.
module _ (t : SchemaText) (texts : List AttrText) (attributes : List Attribute) (p : texts ≡ t.attributes)
    (given : Means (attrs_rules [] texts) (map attribute_of texts) (Ok attributes)) where
  same_attributes : attributes ≡ map attribute_of t.attributes
  same_attributes = given.1 ∙ ap (map attribute_of) p

  pub dims_means : (names : List Attribute) (dims : List DimText) (answer : Result (List Dimension) SchemaFault) → names ≡ attributes → dims ≡ t.dimensions
      → Means (dims_rules (attribute_names names) [] dims) (map dimension_of dims) answer
      → Means (dims_rules (attribute_names attributes) [] t.dimensions) (map dimension_of t.dimensions) answer
  dims_means names dims answer r q h =
      subst (λ (l : List Attribute). Means (dims_rules (attribute_names l) [] t.dimensions) (map dimension_of t.dimensions) answer) r
      (subst (λ (l : List DimText). Means (dims_rules (attribute_names names) [] l) (map dimension_of l) answer) q h)

  rest_broken : first_broken (rules t)
      ≡ or_else (first_broken (dims_rules (attribute_names attributes) [] t.dimensions))
      (first_broken (whole_rules attributes (map dimension_of t.dimensions) t.brackets))
  rest_broken =
      let first = attrs_rules [] t.attributes in
      let second = dims_rules (attribute_names (map attribute_of t.attributes)) [] t.dimensions in
      let third = whole_rules (map attribute_of t.attributes) (map dimension_of t.dimensions) t.brackets in
      broken_then (first ++ second) third
      ∙ ap (λ o. or_else o (first_broken third))
      (broken_then first second ∙ ap (λ o. or_else o (first_broken second)) (ap (λ l. first_broken (attrs_rules [] l)) (sym p) ∙ given.0))
      ∙ ap (λ l. or_else (first_broken (dims_rules (attribute_names l) [] t.dimensions))
      (first_broken (whole_rules l (map dimension_of t.dimensions) t.brackets)))
      (sym same_attributes)

  pub rest_err : (e : SchemaFault) → Means (dims_rules (attribute_names attributes) [] t.dimensions) (map dimension_of t.dimensions) (Err e)
      → Means (rules t) (schema_of t) (Err e)
  rest_err (fault.Rule span kind) h = rest_broken ∙ ap (λ o. or_else o (first_broken (whole_rules attributes (map dimension_of t.dimensions) t.brackets))) h
  rest_err fault.Memory h = tt

  pub whole_left : (dimensions : List Dimension)
      → Means (dims_rules (attribute_names attributes) [] t.dimensions) (map dimension_of t.dimensions) (Ok dimensions)
      → first_broken (rules t) ≡ first_broken (whole_rules attributes dimensions t.brackets)
  whole_left dimensions (h, e) =
      rest_broken ∙ ap (λ o. or_else o (first_broken (whole_rules attributes (map dimension_of t.dimensions) t.brackets))) h
      ∙ ap (λ l. first_broken (whole_rules attributes l t.brackets)) (sym e)

  pub parts_same : (dimensions : List Dimension) → dimensions ≡ map dimension_of t.dimensions → schema_with attributes dimensions ≡ schema_of t
  parts_same dimensions e = ap (λ l. schema_with l dimensions) same_attributes ∙ ap (schema_with (map attribute_of t.attributes)) e
