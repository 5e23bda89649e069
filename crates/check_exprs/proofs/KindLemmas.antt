-- A typed expression is of each kind that it fits.
use Rattle.std.proofs.Common.{◌≡◌, ◌⊎◌, inl, inr, ℕ, ◌<◌, ◌≤◌, Bool, true, false, ◌&&◌, ◌||◌, IsTrue, Option, Some, None, Ok, Err, List, [], ◌∷◌, length, map, refl, sym, ap, subst, arith}
use Rattle.std.specs.Prelude.{slice_get, position, nat_lt, get_or}
use Rattle.std.specs.Option.{option_map}
use Rattle.std.specs.Str.{bytes_eq}
use Rattle.std.proofs.lemmas.Bool.{and_from, and_parts, lt-ltb}
use Rattle.std.proofs.lemmas.List.Quantifiers.{position-Some}
use Rattle.std.proofs.lemmas.Option.{slice_get-map, slice_get_cases}
use Rattle.cell_values.specs.declared.name.Span.{Span}
use Rattle.cell_values.specs.declared.datum.CompareOp.{CompareOp}
use Rattle.cell_values.specs.declared.datum.CompareOp.TheVariants as compare
use Rattle.cell_values.specs.declared.schema.Kind.{Kind}
use Rattle.cell_values.specs.declared.schema.Kind.TheVariants.{Int64, Str, Bool as Truths}
use Rattle.cell_values.specs.declared.schema.Attribute.{Attribute}
use Rattle.cell_values.specs.declared.schema.Dimension.{Dimension}
use Rattle.cell_values.specs.declared.datum.Datum.TheVariants as datum
use Rattle.cell_values.specs.Cells.{is_of_kind}
use Rattle.schema_grammar.specs.declared.kinds.TypeKind.{TypeKind}
use Rattle.schema_grammar.specs.declared.kinds.TypeKind.TheVariants.{WrongType}
use Rattle.check_rules.specs.Term.{Term, create, number, text, truth, null, missing, reference, version, call, schema, star, renamed, opposite, negative, binary, group, Terms, no_terms, and_term}
use Rattle.check_rules.specs.BinaryOp.{BinaryOp}
use Rattle.check_rules.specs.BinaryOp.TheVariants.{Or, And, Equal, Differs, Less, AtMost, More, AtLeast, Add, Sub, Mul, Div, Rem}
use Rattle.expr_nulls.specs.Expr.{Expr, literal, calculation, relation}
use Rattle.expr_nulls.specs.Typing.{same_kind, calculates, compares, has_kind, is_kind_at}
use Rattle.expr_nulls.specs.declared.expr.ArithOp.{ArithOp}
use Rattle.expr_nulls.specs.declared.expr.ArithOp.TheVariants as arith_op
use Rattle.check_rules.specs.Checked.{Checked, demand, then}
use Rattle.check_exprs.specs.Expressions.{fits, fits_beside, is_ordered, is_text, kind_if, sum_kind, common_kind, kind_at, attribute_place, dimension_place, by_place, named, negated, denied, calculated, equated, ranked, conjoined, disjoined, combined, chosen, applied, bracketed, typed, typed_call}
use Rattle.check_rules.specs.Operators.{operator_named, form_named}
use Rattle.check_exprs.specs.Laws.{leaves_fit, all_leaves_fit, HasItsKinds, TypedHaveKinds}
use Rattle.check_exprs.specs.declared.operand.Operand.{Operand}
use Rattle.check_rules.specs.declared.rules.operator.Operator.{Operator}
use Rattle.check_rules.specs.declared.rules.operator.Form.{Form}
use Rattle.check_rules.specs.declared.rules.operator.Form.TheVariants.{Iif, One}
use Rattle.check_rules.specs.declared.rules.operator.OneForm.{OneForm}
use Rattle.check_rules.specs.declared.rules.operator.OneForm.TheVariants.{IsNull, StrLen, ToText, Missing, Reason}

-- Kinds

same_is : (j k : Kind) → same_kind j k ≡ true → j ≡ k
same_is Int64 Int64 e = refl
same_is Str Str e = refl
same_is Truths Truths e = refl
same_is _ _ e = cc

same_self : (k : Kind) → same_kind k k ≡ true
same_self Int64 = refl
same_self Str = refl
same_self Truths = refl

or_left : (a b : Bool) → a ≡ true → (a || b) ≡ true
or_left true b e = refl
or_left false b e = cc

or_right : (a b : Bool) → b ≡ true → (a || b) ≡ true
or_right true b e = refl
or_right false b e = e

pub fits_self : (k : Kind) → fits k (Some k) ≡ true
fits_self k = same_self k

-- a kind that an operand fits
pub record FitsKind (a : Option Kind) : Type 0 where
  pub kind : Kind
  pub fit : fits kind a ≡ true

some_kind : (a : Option Kind) → FitsKind a
some_kind None = record { kind = Int64; fit = refl }
some_kind (Some k) = record { kind = k; fit = same_self k }

-- a kind that both fit
pub record FitBoth (a b : Option Kind) : Type 0 where
  pub kind : Kind
  pub first : fits kind a ≡ true
  pub second : fits kind b ≡ true

both_kind : (a b : Option Kind) → fits_beside a b ≡ true → FitBoth a b
both_kind None None e = record { kind = Int64; first = refl; second = refl }
both_kind None (Some k) e = record { kind = k; first = refl; second = same_self k }
both_kind (Some k) b e = record { kind = k; first = same_self k; second = e }

-- a kind with an order that both fit
pub record FitOrdered (op : CompareOp) (a b : Option Kind) : Type 0 where
  pub kind : Kind
  pub ordered : compares op kind ≡ true
  pub first : fits kind a ≡ true
  pub second : fits kind b ≡ true

module _ (op : CompareOp) (numbers : compares op Int64 ≡ true) (texts : compares op Str ≡ true) where
  ordered_kind : (a b : Option Kind) → is_ordered a ≡ true → is_ordered b ≡ true → fits_beside a b ≡ true → FitOrdered op a b
  ordered_kind None None o p e = record { kind = Int64; ordered = numbers; first = refl; second = refl }
  ordered_kind None (Some Int64) o p e = record { kind = Int64; ordered = numbers; first = refl; second = refl }
  ordered_kind None (Some Str) o p e = record { kind = Str; ordered = texts; first = refl; second = refl }
  ordered_kind None (Some Truths) o p e = cc
  ordered_kind (Some Int64) b o p e = record { kind = Int64; ordered = numbers; first = refl; second = e }
  ordered_kind (Some Str) b o p e = record { kind = Str; ordered = texts; first = refl; second = e }
  ordered_kind (Some Truths) b o p e = cc

common_fits : (a b : Option Kind) (k : Kind) → fits_beside a b ≡ true → fits k (common_kind a b) ≡ true → (fits k a ≡ true) × (fits k b ≡ true)
common_fits None b k e f = (refl, f)
common_fits (Some j) b k e f = (f, subst (λ (i : Kind). fits i b ≡ true) (same_is j k f) e)

-- `+`: texts, or numbers
sum_calculates : (b : Bool) → calculates arith_op.Add (kind_if b) ≡ true
sum_calculates true = refl
sum_calculates false = refl

within : {A : Type 0} (p : A → Bool) (xs : List A) (i : ℕ) → position p xs ≡ Some i → i < length xs
within p [] i e = cc
within p (x ∷ xs) i e = (position-Some p (x ∷ xs) i x e).0

module _ (attributes : List Attribute) (dimensions : List Dimension) where
  abbrev kinds : List Kind
  kinds = map (λ attribute. attribute.kind) attributes

  abbrev Has : Expr → Kind → Type 0
  Has e k = has_kind kinds (length dimensions) e k ≡ true

  abbrev Fit : Operand → Type 0
  Fit x = HasItsKinds kinds (length dimensions) x

  abbrev Holds : Checked Operand → Type 0
  Holds (Ok x) = Fit x
  Holds (Err breach) = Unit {0}

  demanded : (b : Bool) (s : Span) (kind : TypeKind) (next : Checked Operand) → (b ≡ true → Holds next) → Holds (demand b s kind next)
  demanded true s kind next h = h refl
  demanded false s kind next h = tt

  thens : (part : Checked Operand) (next : Operand → Checked Operand) → Holds part → ((x : Operand) → Fit x → Holds (next x)) → Holds (then part next)
  thens (Ok x) next h f = f x h
  thens (Err breach) next h f = tt

  -- of one kind only
  only : (e : Expr) (j k : Kind) → Has e j → same_kind j k ≡ true → Has e k
  only e j k h same = subst (λ (i : Kind). Has e i) (same_is j k same) h

  negates : (s : Span) (a : Operand) → Fit a → Holds (negated s a)
  negates s a f = demanded (fits Int64 a.kind) a.span WrongType _ (λ t k e. and_from (has_kind kinds (length dimensions) a.expr Int64) (same_kind Int64 k) (f Int64 t) e)

  denies : (s : Span) (a : Operand) → Fit a → Holds (denied s a)
  denies s a f = demanded (fits Truths a.kind) a.span WrongType _ (λ t k e. and_from (has_kind kinds (length dimensions) a.expr Truths) (same_kind Truths k) (f Truths t) e)

  calculation_has : (op : ArithOp) (k : Kind) (a b : Expr) → calculates op k ≡ true → Has a k → Has b k → Has (calculation op a b) k
  calculation_has op k a b c h g =
      let x : Bool = has_kind kinds (length dimensions) a k in
      and_from (calculates op k && x) (has_kind kinds (length dimensions) b k) (and_from (calculates op k) x c h) g

  calculates_of : (s : Span) (op : ArithOp) (k : Kind) (a b : Operand) → calculates op k ≡ true → Fit a → Fit b → Holds (calculated s op k a b)
  calculates_of s op k a b c f g =
      demanded (fits k a.kind) a.span WrongType _ (λ t.
      demanded (fits k b.kind) b.span WrongType _ (λ u j e.
      only (calculation op a.expr b.expr) k j (calculation_has op k a.expr b.expr c (f k t) (g k u)) e))

  abbrev side : CompareOp → Expr → Expr → Kind → Bool
  side op a b k = compares op k && has_kind kinds (length dimensions) a k && has_kind kinds (length dimensions) b k

  side_is : (op : CompareOp) (a b : Expr) (k : Kind) → compares op k ≡ true → Has a k → Has b k → side op a b k ≡ true
  side_is op a b k c h g =
      let x : Bool = has_kind kinds (length dimensions) a k in
      and_from (compares op k && x) (has_kind kinds (length dimensions) b k) (and_from (compares op k) x c h) g

  some_side : (op : CompareOp) (a b : Expr) (k : Kind) → side op a b k ≡ true → (side op a b Int64 || side op a b Str || side op a b Truths) ≡ true
  some_side op a b Int64 h = or_left (side op a b Int64 || side op a b Str) (side op a b Truths) (or_left (side op a b Int64) (side op a b Str) h)
  some_side op a b Str h = or_left (side op a b Int64 || side op a b Str) (side op a b Truths) (or_right (side op a b Int64) (side op a b Str) h)
  some_side op a b Truths h = or_right (side op a b Int64 || side op a b Str) (side op a b Truths) h

  relation_has : (op : CompareOp) (a b : Expr) (k : Kind) → compares op k ≡ true → Has a k → Has b k → (j : Kind) → same_kind Truths j ≡ true → Has (relation op a b) j
  relation_has op a b k c h g j e = and_from (side op a b Int64 || side op a b Str || side op a b Truths) (same_kind Truths j) (some_side op a b k (side_is op a b k c h g)) e

  equates : (s : Span) (op : CompareOp) (a b : Operand) → ((k : Kind) → compares op k ≡ true) → Fit a → Fit b → Holds (equated s op a b)
  equates s op a b all f g =
      demanded (fits_beside a.kind b.kind) b.span WrongType _ (λ t.
      let k : FitBoth a.kind b.kind = both_kind a.kind b.kind t in
      λ j e. relation_has op a.expr b.expr k.kind (all k.kind) (f k.kind k.first) (g k.kind k.second) j e)

  ranks : (s : Span) (op : CompareOp) (a b : Operand) → compares op Int64 ≡ true → compares op Str ≡ true → Fit a → Fit b → Holds (ranked s op a b)
  ranks s op a b numbers texts f g =
      demanded (is_ordered a.kind) a.span WrongType _ (λ t.
      demanded (is_ordered b.kind && fits_beside a.kind b.kind) b.span WrongType _ (λ u.
      let parts = and_parts (is_ordered b.kind) (fits_beside a.kind b.kind) u in
      let k : FitOrdered op a.kind b.kind = ordered_kind op numbers texts a.kind b.kind t parts.0 parts.1 in
      λ j e. relation_has op a.expr b.expr k.kind k.ordered (f k.kind k.first) (g k.kind k.second) j e))

  both_truths : (a b : Operand) → Fit a → Fit b → fits Truths a.kind ≡ true → fits Truths b.kind ≡ true → (j : Kind) → same_kind Truths j ≡ true
      → (has_kind kinds (length dimensions) a.expr Truths && has_kind kinds (length dimensions) b.expr Truths && same_kind Truths j) ≡ true
  both_truths a b f g t u j e =
      let x : Bool = has_kind kinds (length dimensions) a.expr Truths in
      let y : Bool = has_kind kinds (length dimensions) b.expr Truths in
      and_from (x && y) (same_kind Truths j) (and_from x y (f Truths t) (g Truths u)) e

  conjoins : (s : Span) (a b : Operand) → Fit a → Fit b → Holds (conjoined s a b)
  conjoins s a b f g =
      demanded (fits Truths a.kind) a.span WrongType _ (λ t.
      demanded (fits Truths b.kind) b.span WrongType _ (λ u j e. both_truths a b f g t u j e))

  disjoins : (s : Span) (a b : Operand) → Fit a → Fit b → Holds (disjoined s a b)
  disjoins s a b f g =
      demanded (fits Truths a.kind) a.span WrongType _ (λ t.
      demanded (fits Truths b.kind) b.span WrongType _ (λ u j e. both_truths a b f g t u j e))

  equal_all : (k : Kind) → compares compare.Equal k ≡ true
  equal_all Int64 = refl
  equal_all Str = refl
  equal_all Truths = refl

  differs_all : (k : Kind) → compares compare.Differs k ≡ true
  differs_all Int64 = refl
  differs_all Str = refl
  differs_all Truths = refl

  combines : (s : Span) (op : BinaryOp) (a b : Operand) → Fit a → Fit b → Holds (combined s op a b)
  combines s Or a b f g = disjoins s a b f g
  combines s And a b f g = conjoins s a b f g
  combines s Equal a b f g = equates s compare.Equal a b equal_all f g
  combines s Differs a b f g = equates s compare.Differs a b differs_all f g
  combines s Less a b f g = ranks s compare.Less a b refl refl f g
  combines s AtMost a b f g = ranks s compare.AtMost a b refl refl f g
  combines s More a b f g = ranks s compare.More a b refl refl f g
  combines s AtLeast a b f g = ranks s compare.AtLeast a b refl refl f g
  combines s Add a b f g = calculates_of s arith_op.Add (sum_kind a.kind b.kind) a b (sum_calculates (is_text a.kind || is_text b.kind)) f g
  combines s Sub a b f g = calculates_of s arith_op.Sub Int64 a b refl f g
  combines s Mul a b f g = calculates_of s arith_op.Mul Int64 a b refl f g
  combines s Div a b f g = calculates_of s arith_op.Div Int64 a b refl f g
  combines s Rem a b f g = calculates_of s arith_op.Rem Int64 a b refl f g

  chooses : (s : Span) (test a b : Operand) → Fit test → Fit a → Fit b → Holds (chosen s test a b)
  chooses s test a b h f g =
      demanded (fits Truths test.kind) test.span WrongType _ (λ t.
      demanded (fits_beside a.kind b.kind) b.span WrongType _ (λ u k e.
      let fit = common_fits a.kind b.kind k u e in
      let x : Bool = has_kind kinds (length dimensions) test.expr Truths in
      let y : Bool = has_kind kinds (length dimensions) a.expr k in
      and_from (x && y) (has_kind kinds (length dimensions) b.expr k) (and_from x y (h Truths t) (f k fit.0)) (g k fit.1)))

  any_kind : (e : Expr) (k : Kind) → Has e k → (has_kind kinds (length dimensions) e Int64 || has_kind kinds (length dimensions) e Str || has_kind kinds (length dimensions) e Truths) ≡ true
  any_kind e Int64 h = or_left (has_kind kinds (length dimensions) e Int64 || has_kind kinds (length dimensions) e Str) (has_kind kinds (length dimensions) e Truths) (or_left (has_kind kinds (length dimensions) e Int64) (has_kind kinds (length dimensions) e Str) h)
  any_kind e Str h = or_left (has_kind kinds (length dimensions) e Int64 || has_kind kinds (length dimensions) e Str) (has_kind kinds (length dimensions) e Truths) (or_right (has_kind kinds (length dimensions) e Int64) (has_kind kinds (length dimensions) e Str) h)
  any_kind e Truths h = or_right (has_kind kinds (length dimensions) e Int64 || has_kind kinds (length dimensions) e Str) (has_kind kinds (length dimensions) e Truths) h

  any_then : (a : Operand) (i j : Kind) → Fit a → same_kind i j ≡ true
      → ((has_kind kinds (length dimensions) a.expr Int64 || has_kind kinds (length dimensions) a.expr Str || has_kind kinds (length dimensions) a.expr Truths) && same_kind i j) ≡ true
  any_then a i j f e =
      let k : FitsKind a.kind = some_kind a.kind in
      and_from (has_kind kinds (length dimensions) a.expr Int64 || has_kind kinds (length dimensions) a.expr Str || has_kind kinds (length dimensions) a.expr Truths) (same_kind i j)
      (any_kind a.expr k.kind (f k.kind k.fit)) e

  applies : (s : Span) (form : OneForm) (a : Operand) → Fit a → Holds (applied s form a)
  applies s IsNull a f = λ j e. any_then a Truths j f e
  applies s StrLen a f = demanded (fits Str a.kind) a.span WrongType _ (λ t j e. and_from (has_kind kinds (length dimensions) a.expr Str) (same_kind Int64 j) (f Str t) e)
  applies s ToText a f = demanded (fits Int64 a.kind) a.span WrongType _ (λ t j e. and_from (has_kind kinds (length dimensions) a.expr Int64) (same_kind Str j) (f Int64 t) e)
  applies s Missing a f = demanded (fits Int64 a.kind) a.span WrongType _ (λ t j e. f Int64 t)
  applies s Reason a f = λ j e. any_then a Int64 j f e

  -- Names

  kind_there : (o : Option Kind) (k : Kind) → (o ≡ None → ⊥) → fits k o ≡ true → is_kind_at o k ≡ true
  kind_there None k some e = absurd (some refl)
  kind_there (Some j) k some e = e

  no_none : (place : ℕ) → ((x : Attribute) × (place < length attributes) × (slice_get attributes place ≡ Some x) × (get_or attributes place x ≡ x)) ⊎ ((length attributes ≤ place) × (slice_get attributes place ≡ None))
      → place < length attributes → kind_at attributes place ≡ None → ⊥
  no_none place (inl (x, h, e, same)) inside none = let some : kind_at attributes place ≡ Some x.kind = ap (option_map (λ (attribute : Attribute). attribute.kind)) e in cc
  no_none place (inr (out, e)) inside none = omega arith

  there : (place : ℕ) → place < length attributes → kind_at attributes place ≡ None → ⊥
  there place h none = no_none place (slice_get_cases attributes place).1 h none

  names : (s : Span) (name : List ℕ) → Holds (named attributes dimensions s name)
  names s name = by (attribute_place attributes name) (dimension_place dimensions name) refl refl where
    by : (a d : Option ℕ) → attribute_place attributes name ≡ a → dimension_place dimensions name ≡ d → Holds (by_place s attributes a d)
    by (Some place) d e f = λ k fit. subst (λ (o : Option Kind). is_kind_at o k ≡ true) (sym (slice_get-map (λ (attribute : Attribute). attribute.kind) attributes place))
        (kind_there (kind_at attributes place) k (there place (within (λ attribute. bytes_eq attribute.name name) attributes place e)) fit)
    by None (Some place) e f = λ k fit. and_from (nat_lt place (length dimensions)) (same_kind Int64 k) (lt-ltb place (length dimensions) (within (λ dimension. bytes_eq dimension.name name) dimensions place f)) fit
    by None None e f = tt

  -- Leaves

  null_of_each : (k : Kind) → is_of_kind k datum.Null ≡ true
  null_of_each Int64 = refl
  null_of_each Str = refl
  null_of_each Truths = refl

  code_of_each : (c : ℕ) (k : Kind) → is_of_kind Int64 (datum.Missing c) ≡ true → is_of_kind k (datum.Missing c) ≡ true
  code_of_each c Int64 e = e
  code_of_each c Str e = e
  code_of_each c Truths e = e

  mutual
    types : (t : Term) → IsTrue (leaves_fit t) → Holds (typed attributes dimensions t)
    types (number s n) h = λ k e. only (literal (datum.Int n)) Int64 k h e
    types (text s x) h = λ k e. only (literal (datum.Text x)) Str k h e
    types (truth s b) h = λ k e. only (literal (datum.Truth b)) Truths k refl e
    types (null s) h = λ k e. null_of_each k
    types (missing s c) h = λ k e. code_of_each c k h
    types (reference s name) h = names s name
    types (negative s a) h = thens (typed attributes dimensions a) (negated s) (types a h) (λ x f. negates s x f)
    types (opposite s a) h = thens (typed attributes dimensions a) (denied s) (types a h) (λ x f. denies s x f)
    types (binary s op a b) h =
        let parts = and_parts (leaves_fit a) (leaves_fit b) h in
        thens (typed attributes dimensions a) (λ x. then (typed attributes dimensions b) (combined s op x)) (types a parts.0) (λ x f.
        thens (typed attributes dimensions b) (combined s op x) (types b parts.1) (λ y g. combines s op x y f g))
    types (group s a) h = thens (typed attributes dimensions a) (λ x. Ok (bracketed s x)) (types a h) (λ x f. f)
    types (call s name operands) h = types_call s name (operator_named name) (form_named name) operands h
    types (version s name n) h = tt
    types (schema s written) h = tt
    types (star s) h = tt
    types (renamed s a name) h = tt
    types (create s name written) h = tt

    types_call : (s : Span) (name : List ℕ) (operator : Option Operator) (form : Option Form) (operands : Terms) → IsTrue (all_leaves_fit operands)
        → Holds (typed_call attributes dimensions s name operator form operands)
    types_call s name (Some operator) form operands h = tt
    types_call s name None None operands h = tt
    types_call s name None (Some Iif) (and_term test (and_term a (and_term b no_terms))) h =
        let first = and_parts (leaves_fit test) (leaves_fit a && (leaves_fit b && true)) h in
        let second = and_parts (leaves_fit a) (leaves_fit b && true) first.1 in
        let third = and_parts (leaves_fit b) true second.1 in
        thens (typed attributes dimensions test) _ (types test first.0) (λ x f.
        thens (typed attributes dimensions a) _ (types a second.0) (λ y g.
        thens (typed attributes dimensions b) (chosen s x y) (types b third.0) (λ z k. chooses s x y z f g k)))
    types_call s name None (Some (One form)) (and_term a no_terms) h =
        let parts = and_parts (leaves_fit a) true h in
        thens (typed attributes dimensions a) (applied s form) (types a parts.0) (λ x f. applies s form x f)
    types_call s name None (Some form) operands h = tt

pub typed_have_kinds : TypedHaveKinds
typed_have_kinds attributes dimensions t x h e = subst (λ (c : Checked Operand). Holds attributes dimensions c) e (types attributes dimensions t h)
