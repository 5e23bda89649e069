-- Operands that are too few or too many.
use Rattle.std.proofs.Common.{◌≡◌, ◌<◌, ◌≤◌, ℕ, List, [], ◌∷◌, length, get_or, Some, None, refl, sym, ap, ◌∙◌, arith}
use Rattle.cell_values.specs.declared.name.Span.{Span}
use Rattle.cell_values.specs.declared.schema.Attribute.{Attribute}
use Rattle.cell_values.specs.declared.schema.Dimension.{Dimension}
use Rattle.schema_grammar.specs.declared.kinds.TypeKind.TheVariants.{WrongCount}
use Rattle.check_rules.specs.Term.{Term, to_terms}
use Rattle.check_rules.specs.Checked.{refused}
use Rattle.check_exprs.specs.Expressions.{typed_call}
use Rattle.check_rules.specs.declared.rules.operator.Form.TheVariants.{Iif, One}
use Rattle.check_rules.specs.declared.rules.operator.OneForm.{OneForm}

-- Lists of three, two and one, by their items.

pub one : (xs : List Term) (x : Term) → 1 ≤ length xs → length xs < 2 → x ≡ get_or xs 0 x → xs ≡ x ∷ []
one [] x low high e = absurd (omega arith)
one (a ∷ []) x low high e = ap (λ (t : Term). t ∷ []) (sym e)
one (a ∷ b ∷ xs) x low high e = absurd (omega arith)

pub two : (xs : List Term) (x y : Term) → 2 ≤ length xs → length xs < 3 → x ≡ get_or xs 0 x → y ≡ get_or xs 1 y → xs ≡ x ∷ y ∷ []
two [] x y low high e f = absurd (omega arith)
two (a ∷ []) x y low high e f = absurd (omega arith)
two (a ∷ b ∷ []) x y low high e f = ap (λ (t : Term). t ∷ b ∷ []) (sym e) ∙ ap (λ (t : Term). x ∷ t ∷ []) (sym f)
two (a ∷ b ∷ c ∷ xs) x y low high e f = absurd (omega arith)

pub three : (xs : List Term) (x y z : Term) → 3 ≤ length xs → length xs < 4 → x ≡ get_or xs 0 x → y ≡ get_or xs 1 y → z ≡ get_or xs 2 z → xs ≡ x ∷ y ∷ z ∷ []
three [] x y z low high e f g = absurd (omega arith)
three (a ∷ []) x y z low high e f g = absurd (omega arith)
three (a ∷ b ∷ []) x y z low high e f g = absurd (omega arith)
three (a ∷ b ∷ c ∷ []) x y z low high e f g =
    ap (λ (t : Term). t ∷ b ∷ c ∷ []) (sym e) ∙ ap (λ (t : Term). x ∷ t ∷ c ∷ []) (sym f) ∙ ap (λ (t : Term). x ∷ y ∷ t ∷ []) (sym g)
three (a ∷ b ∷ c ∷ d ∷ xs) x y z low high e f g = absurd (omega arith)

module _ (attributes : List Attribute) (dimensions : List Dimension) (s : Span) (name : List ℕ) where
  pub other_for_iif : (xs : List Term) → (length xs ≡ 3 → ⊥) → typed_call attributes dimensions s name None (Some Iif) (to_terms xs) ≡ refused s WrongCount
  other_for_iif [] other = refl
  other_for_iif (x ∷ []) other = refl
  other_for_iif (x ∷ y ∷ []) other = refl
  other_for_iif (x ∷ y ∷ z ∷ []) other = absurd (other refl)
  other_for_iif (x ∷ y ∷ z ∷ w ∷ xs) other = refl

  pub other_for_one : (form : OneForm) (xs : List Term) → (length xs ≡ 1 → ⊥) → typed_call attributes dimensions s name None (Some (One form)) (to_terms xs) ≡ refused s WrongCount
  other_for_one form [] other = refl
  other_for_one form (x ∷ []) other = absurd (other refl)
  other_for_one form (x ∷ y ∷ xs) other = refl
