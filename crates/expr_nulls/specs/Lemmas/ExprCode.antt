-- Each expression has a code of its own.
use Rattle.std.specs.Prelude.{◌≡◌, ℕ, List, [], ◌∷◌}
use Rattle.std.proofs.Common.{ap, refl}
use Rattle.std.proofs.lemmas.Bool.{eqb-false}
use Rattle.std.specs.Coded.{Coded, coded_list}
use base.Stored.{coded_via, Gv, gnum, num}
use Rattle.cell_values.specs.declared.datum.Datum.{Datum}
use Rattle.cell_values.specs.contracts.datum.Datum as datum
use Rattle.cell_values.specs.declared.datum.CompareOp.{CompareOp}
use Rattle.cell_values.specs.contracts.datum.CompareOp as compare_op
use Rattle.expr_nulls.specs.declared.expr.ArithOp.{ArithOp}
use Rattle.expr_nulls.specs.contracts.expr.ArithOp as arith_op
use Rattle.expr_nulls.specs.Expr.{Expr, literal, attribute_value, dimension_value, minus, denial, calculation, relation, conjunction}
use Rattle.expr_nulls.specs.Expr.{disjunction, conditional, null_test, byte_length, decimal_text, coded_null, null_code}

abbrev datum_code : Coded Datum
datum_code = datum.the_row.coded

abbrev compare_code : Coded CompareOp
compare_code = compare_op.the_row.coded

abbrev arith_code : Coded ArithOp
arith_code = arith_op.the_row.coded

abbrev first_number : List Gv → ℕ
first_number [] = 0
first_number (g ∷ gs) = num g

abbrev head : List Gv → Gv
head [] = gnum 0
head (g ∷ gs) = g

abbrev behind : List Gv → List Gv
behind [] = []
behind (g ∷ gs) = gs

abbrev second : List Gv → Gv
second gs = head (behind gs)

abbrev after_two : List Gv → List Gv
after_two gs = behind (behind gs)

-- the expression's codes, before further ones
pub numbers : Expr → List Gv → List Gv
numbers (literal v) rest = gnum 0 ∷ datum_code.code v ∷ rest
numbers (attribute_value n) rest = gnum 1 ∷ gnum n ∷ rest
numbers (dimension_value n) rest = gnum 2 ∷ gnum n ∷ rest
numbers (minus a) rest = gnum 3 ∷ numbers a rest
numbers (denial a) rest = gnum 4 ∷ numbers a rest
numbers (calculation op a b) rest = gnum 5 ∷ arith_code.code op ∷ numbers a (numbers b rest)
numbers (relation op a b) rest = gnum 6 ∷ compare_code.code op ∷ numbers a (numbers b rest)
numbers (conjunction a b) rest = gnum 7 ∷ numbers a (numbers b rest)
numbers (disjunction a b) rest = gnum 8 ∷ numbers a (numbers b rest)
numbers (conditional test a b) rest = gnum 9 ∷ numbers test (numbers a (numbers b rest))
numbers (null_test a) rest = gnum 10 ∷ numbers a rest
numbers (byte_length a) rest = gnum 11 ∷ numbers a rest
numbers (decimal_text a) rest = gnum 12 ∷ numbers a rest
numbers (coded_null a) rest = gnum 13 ∷ numbers a rest
numbers (null_code a) rest = gnum 14 ∷ numbers a rest

pub same_numbers : (s t : Expr) (x y : List Gv) → numbers s x ≡ numbers t y → (s ≡ t) × (x ≡ y)
unfolding numbers
same_numbers (literal v) (literal w) x y e = (ap literal (datum_code.inj v w (ap second e)), ap after_two e)
same_numbers (attribute_value n) (attribute_value m) x y e = (ap attribute_value (ap num (ap second e)), ap after_two e)
same_numbers (dimension_value n) (dimension_value m) x y e = (ap dimension_value (ap num (ap second e)), ap after_two e)
same_numbers (minus a) (minus b) x y e = let r : (a ≡ b) × (x ≡ y) = same_numbers a b x y (ap behind e) in (ap minus r.0, r.1)
same_numbers (denial a) (denial b) x y e = let r : (a ≡ b) × (x ≡ y) = same_numbers a b x y (ap behind e) in (ap denial r.0, r.1)
same_numbers (calculation o a b) (calculation p c d) x y e =
    let op : o ≡ p = arith_code.inj o p (ap second e) in
    let first : (a ≡ c) × (numbers b x ≡ numbers d y) = same_numbers a c (numbers b x) (numbers d y) (ap after_two e) in
    let second : (b ≡ d) × (x ≡ y) = same_numbers b d x y first.1 in
    (λ i. calculation (op i) (first.0 i) (second.0 i), second.1)
same_numbers (relation o a b) (relation p c d) x y e =
    let op : o ≡ p = compare_code.inj o p (ap second e) in
    let first : (a ≡ c) × (numbers b x ≡ numbers d y) = same_numbers a c (numbers b x) (numbers d y) (ap after_two e) in
    let second : (b ≡ d) × (x ≡ y) = same_numbers b d x y first.1 in
    (λ i. relation (op i) (first.0 i) (second.0 i), second.1)
same_numbers (conjunction a b) (conjunction c d) x y e =
    let first : (a ≡ c) × (numbers b x ≡ numbers d y) = same_numbers a c (numbers b x) (numbers d y) (ap behind e) in
    let second : (b ≡ d) × (x ≡ y) = same_numbers b d x y first.1 in
    (λ i. conjunction (first.0 i) (second.0 i), second.1)
same_numbers (disjunction a b) (disjunction c d) x y e =
    let first : (a ≡ c) × (numbers b x ≡ numbers d y) = same_numbers a c (numbers b x) (numbers d y) (ap behind e) in
    let second : (b ≡ d) × (x ≡ y) = same_numbers b d x y first.1 in
    (λ i. disjunction (first.0 i) (second.0 i), second.1)
same_numbers (conditional t a b) (conditional u c d) x y e =
    let test : (t ≡ u) × (numbers a (numbers b x) ≡ numbers c (numbers d y)) = same_numbers t u (numbers a (numbers b x)) (numbers c (numbers d y)) (ap behind e) in
    let first : (a ≡ c) × (numbers b x ≡ numbers d y) = same_numbers a c (numbers b x) (numbers d y) test.1 in
    let second : (b ≡ d) × (x ≡ y) = same_numbers b d x y first.1 in
    (λ i. conditional (test.0 i) (first.0 i) (second.0 i), second.1)
same_numbers (null_test a) (null_test b) x y e = let r : (a ≡ b) × (x ≡ y) = same_numbers a b x y (ap behind e) in (ap null_test r.0, r.1)
same_numbers (byte_length a) (byte_length b) x y e = let r : (a ≡ b) × (x ≡ y) = same_numbers a b x y (ap behind e) in (ap byte_length r.0, r.1)
same_numbers (decimal_text a) (decimal_text b) x y e = let r : (a ≡ b) × (x ≡ y) = same_numbers a b x y (ap behind e) in (ap decimal_text r.0, r.1)
same_numbers (coded_null a) (coded_null b) x y e = let r : (a ≡ b) × (x ≡ y) = same_numbers a b x y (ap behind e) in (ap coded_null r.0, r.1)
same_numbers (null_code a) (null_code b) x y e = let r : (a ≡ b) × (x ≡ y) = same_numbers a b x y (ap behind e) in (ap null_code r.0, r.1)
same_numbers s t x y e = absurd (eqb-false (first_number (numbers s x)) (first_number (numbers t y)) refl (ap first_number e))

-- a code is its own code
abbrev itself : Coded Gv
itself = record { code = λ g. g; inj = λ x y p. p }

abbrev pub expr_code : Coded Expr
expr_code = coded_via (coded_list itself) (λ e. numbers e []) (λ s t e. (same_numbers s t [] [] e).0)
