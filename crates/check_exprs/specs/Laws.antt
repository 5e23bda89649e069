-- Laws of expressions.
use Rattle.std.specs.Prelude.{◌≡◌, ℕ, Bool, true, ◌&&◌, List, length, map, Ok, IsTrue}
use Rattle.cell_values.specs.Cells.{is_of_kind}
use Rattle.cell_values.specs.declared.datum.Datum.TheVariants as datum
use Rattle.cell_values.specs.declared.schema.Kind.{Kind}
use Rattle.cell_values.specs.declared.schema.Kind.TheVariants.{Int64, Str}
use Rattle.cell_values.specs.declared.schema.Attribute.{Attribute}
use Rattle.cell_values.specs.declared.schema.Dimension.{Dimension}
use Rattle.check_rules.specs.Term.{Term, number, text, missing, call, renamed, opposite, negative, binary, group, Terms, no_terms, and_term}
use Rattle.check_rules.specs.BinaryOp.{BinaryOp}
use Rattle.cell_values.specs.declared.name.Span.{Span}
use Rattle.schema_grammar.specs.declared.kinds.TypeKind.{TypeKind}
use Rattle.expr_nulls.specs.Typing.{has_kind}
use Rattle.check_rules.specs.Checked.{refused}
use Rattle.check_exprs.specs.Expressions.{fits, typed}
use Rattle.check_exprs.specs.declared.operand.Operand.{Operand}

-- the numbers, texts and codes of a tree are within the limits of values
abbrev mutual
  pub leaves_fit : Term → Bool
  leaves_fit (number s n) = is_of_kind Int64 (datum.Int n)
  leaves_fit (text s x) = is_of_kind Str (datum.Text x)
  leaves_fit (missing s c) = is_of_kind Int64 (datum.Missing c)
  leaves_fit (call s name operands) = all_leaves_fit operands
  leaves_fit (renamed s a name) = leaves_fit a
  leaves_fit (opposite s a) = leaves_fit a
  leaves_fit (negative s a) = leaves_fit a
  leaves_fit (binary s op a b) = leaves_fit a && leaves_fit b
  leaves_fit (group s a) = leaves_fit a
  leaves_fit _ = true

  pub all_leaves_fit : Terms → Bool
  all_leaves_fit no_terms = true
  all_leaves_fit (and_term t ts) = leaves_fit t && all_leaves_fit ts

-- the expression is of each kind that the operand fits
abbrev pub HasItsKinds : List Kind → ℕ → Operand → Type 0
HasItsKinds kinds dimensions x = (kind : Kind) → IsTrue (fits kind x.kind) → IsTrue (has_kind kinds dimensions x.expr kind)

-- what is answered for an expression is typed over the attributes and dimensions
abbrev pub TypedHaveKinds : Type 0
TypedHaveKinds = (attributes : List Attribute) (dimensions : List Dimension) (t : Term) (x : Operand)
    → IsTrue (leaves_fit t) → typed attributes dimensions t ≡ Ok x → HasItsKinds (map (λ attribute. attribute.kind) attributes) (length dimensions) x

-- a fault within the left operand comes before each other one, and one within the right operand before the operator's
abbrev pub InnerFaultsFirst : Type 0
InnerFaultsFirst = (attributes : List Attribute) (dimensions : List Dimension) (s at : Span) (op : BinaryOp) (a b : Term) (kind : TypeKind)
    → (typed attributes dimensions a ≡ refused at kind → typed attributes dimensions (binary s op a b) ≡ refused at kind)
    × ((x : Operand) → typed attributes dimensions a ≡ Ok x → typed attributes dimensions b ≡ refused at kind
    → typed attributes dimensions (binary s op a b) ≡ refused at kind)
