-- Each tree has a code of its own.
use Rattle.std.specs.Prelude.{◌≡◌, ℕ, List, [], ◌∷◌}
use Rattle.std.proofs.Common.{refl, ap, eqb, ◌∙◌}
use Rattle.std.proofs.lemmas.Bool.{false≢true}
use Rattle.std.specs.Coded.{Coded, coded_list, coded_ℕ, coded_ℤ, coded_bool}
use base.Stored.{coded_via, Gv, gnum, num}
use Rattle.cell_values.specs.declared.name.Span.{Span}
use Rattle.schema_grammar.specs.declared.shape_text.SchemaText.{SchemaText}
use Rattle.schema_grammar.specs.contracts.shape_text.SchemaText as schema_text
use Rattle.afl_trees.specs.declared.tree.BinaryOp.{BinaryOp}
use Rattle.afl_trees.specs.contracts.tree.BinaryOp as binary_op
use Rattle.afl_trees.specs.Term.{Term, create, number, text, truth, null, missing, reference, version, call, schema}
use Rattle.afl_trees.specs.Term.{star, renamed, opposite, negative, binary, group, Terms, no_terms, and_term}

same_span : (s t : Span) → s.start ≡ t.start → s.end ≡ t.end → s ≡ t
same_span s t p q = ap (λ n. record { start = n; end = s.end }) p ∙ ap (λ n. record { start = t.start; end = n }) q

abbrev bytes_code : Coded (List ℕ)
bytes_code = coded_list coded_ℕ

abbrev shape_code : Coded SchemaText
shape_code = schema_text.the_row.coded

abbrev op_code : Coded BinaryOp
op_code = binary_op.the_row.coded

abbrev first_number : List Gv → ℕ
first_number [] = 0
first_number (g ∷ gs) = num g

abbrev rest_of : List Gv → List Gv
rest_of [] = []
rest_of (g ∷ gs) = gs

abbrev first_of : Gv → List Gv → Gv
first_of d [] = d
first_of d (g ∷ gs) = g

-- what stands behind equal codes, too
placed : (s t : Span) {k l : Gv} {x y : List Gv} → k ∷ gnum s.start ∷ gnum s.end ∷ x ≡ l ∷ gnum t.start ∷ gnum t.end ∷ y → (s ≡ t) × (x ≡ y)
placed s t e =
    let behind = ap rest_of e in
    (same_span s t (ap first_number behind) (ap first_number (ap rest_of behind)), ap rest_of (ap rest_of behind))

coded : {A : Type 0} (c : Coded A) (a b : A) {x y : List Gv} → c.code a ∷ x ≡ c.code b ∷ y → (a ≡ b) × (x ≡ y)
coded c a b e = (c.inj a b (ap (first_of (c.code a)) e), ap rest_of e)

-- the tree's codes, before further ones
mutual
  pub numbers : Term → List Gv → List Gv
  numbers (create s n m) rest = gnum 0 ∷ gnum s.start ∷ gnum s.end ∷ bytes_code.code n ∷ shape_code.code m ∷ rest
  numbers (number s n) rest = gnum 1 ∷ gnum s.start ∷ gnum s.end ∷ coded_ℤ.code n ∷ rest
  numbers (text s x) rest = gnum 2 ∷ gnum s.start ∷ gnum s.end ∷ bytes_code.code x ∷ rest
  numbers (truth s b) rest = gnum 3 ∷ gnum s.start ∷ gnum s.end ∷ coded_bool.code b ∷ rest
  numbers (null s) rest = gnum 4 ∷ gnum s.start ∷ gnum s.end ∷ rest
  numbers (missing s c) rest = gnum 5 ∷ gnum s.start ∷ gnum s.end ∷ gnum c ∷ rest
  numbers (reference s n) rest = gnum 6 ∷ gnum s.start ∷ gnum s.end ∷ bytes_code.code n ∷ rest
  numbers (version s n v) rest = gnum 7 ∷ gnum s.start ∷ gnum s.end ∷ bytes_code.code n ∷ coded_ℤ.code v ∷ rest
  numbers (call s n ts) rest = gnum 8 ∷ gnum s.start ∷ gnum s.end ∷ bytes_code.code n ∷ all_numbers ts rest
  numbers (schema s m) rest = gnum 9 ∷ gnum s.start ∷ gnum s.end ∷ shape_code.code m ∷ rest
  numbers (star s) rest = gnum 10 ∷ gnum s.start ∷ gnum s.end ∷ rest
  numbers (renamed s a n) rest = gnum 11 ∷ gnum s.start ∷ gnum s.end ∷ bytes_code.code n ∷ numbers a rest
  numbers (opposite s a) rest = gnum 12 ∷ gnum s.start ∷ gnum s.end ∷ numbers a rest
  numbers (negative s a) rest = gnum 13 ∷ gnum s.start ∷ gnum s.end ∷ numbers a rest
  numbers (binary s o a b) rest = gnum 14 ∷ gnum s.start ∷ gnum s.end ∷ op_code.code o ∷ numbers a (numbers b rest)
  numbers (group s a) rest = gnum 15 ∷ gnum s.start ∷ gnum s.end ∷ numbers a rest

  pub all_numbers : Terms → List Gv → List Gv
  all_numbers no_terms rest = gnum 0 ∷ rest
  all_numbers (and_term t ts) rest = gnum 1 ∷ numbers t (all_numbers ts rest)

mutual
  unfolding numbers

  pub same_numbers : (s t : Term) (x y : List Gv) → numbers s x ≡ numbers t y → (s ≡ t) × (x ≡ y)
  same_numbers (create s n m) (create t k l) x y e =
      let place = placed s t e in
      let names = coded bytes_code n k place.1 in
      let shapes = coded shape_code m l names.1 in
      (ap (λ u. create u n m) place.0 ∙ ap (λ u. create t u m) names.0 ∙ ap (create t k) shapes.0, shapes.1)
  same_numbers (number s n) (number t m) x y e =
      let place = placed s t e in
      let values = coded coded_ℤ n m place.1 in
      (ap (λ u. number u n) place.0 ∙ ap (number t) values.0, values.1)
  same_numbers (text s n) (text t m) x y e =
      let place = placed s t e in
      let texts = coded bytes_code n m place.1 in
      (ap (λ u. text u n) place.0 ∙ ap (text t) texts.0, texts.1)
  same_numbers (truth s n) (truth t m) x y e =
      let place = placed s t e in
      let truths = coded coded_bool n m place.1 in
      (ap (λ u. truth u n) place.0 ∙ ap (truth t) truths.0, truths.1)
  same_numbers (null s) (null t) x y e = let place = placed s t e in (ap null place.0, place.1)
  same_numbers (missing s n) (missing t m) x y e =
      let place = placed s t e in
      (ap (λ u. missing u n) place.0 ∙ ap (missing t) (ap first_number place.1), ap rest_of place.1)
  same_numbers (reference s n) (reference t m) x y e =
      let place = placed s t e in
      let names = coded bytes_code n m place.1 in
      (ap (λ u. reference u n) place.0 ∙ ap (reference t) names.0, names.1)
  same_numbers (version s n v) (version t m w) x y e =
      let place = placed s t e in
      let names = coded bytes_code n m place.1 in
      let versions = coded coded_ℤ v w names.1 in
      (ap (λ u. version u n v) place.0 ∙ ap (λ u. version t u v) names.0 ∙ ap (version t m) versions.0, versions.1)
  same_numbers (call s n ts) (call t m us) x y e =
      let place = placed s t e in
      let names = coded bytes_code n m place.1 in
      let r = same_all_numbers ts us x y names.1 in
      (ap (λ u. call u n ts) place.0 ∙ ap (λ u. call t u ts) names.0 ∙ ap (call t m) r.0, r.1)
  same_numbers (schema s m) (schema t l) x y e =
      let place = placed s t e in
      let shapes = coded shape_code m l place.1 in
      (ap (λ u. schema u m) place.0 ∙ ap (schema t) shapes.0, shapes.1)
  same_numbers (star s) (star t) x y e = let place = placed s t e in (ap star place.0, place.1)
  same_numbers (renamed s a n) (renamed t b m) x y e =
      let place = placed s t e in
      let names = coded bytes_code n m place.1 in
      let r = same_numbers a b x y names.1 in
      (ap (λ u. renamed u a n) place.0 ∙ ap (λ u. renamed t u n) r.0 ∙ ap (renamed t b) names.0, r.1)
  same_numbers (opposite s a) (opposite t b) x y e =
      let place = placed s t e in
      let r = same_numbers a b x y place.1 in
      (ap (λ u. opposite u a) place.0 ∙ ap (opposite t) r.0, r.1)
  same_numbers (negative s a) (negative t b) x y e =
      let place = placed s t e in
      let r = same_numbers a b x y place.1 in
      (ap (λ u. negative u a) place.0 ∙ ap (negative t) r.0, r.1)
  same_numbers (binary s o a b) (binary t p c d) x y e =
      let place = placed s t e in
      let ops = coded op_code o p place.1 in
      let first = same_numbers a c (numbers b x) (numbers d y) ops.1 in
      let second = same_numbers b d x y first.1 in
      (ap (λ u. binary u o a b) place.0 ∙ ap (λ u. binary t u a b) ops.0 ∙ ap (λ u. binary t p u b) first.0 ∙ ap (binary t p c) second.0, second.1)
  same_numbers (group s a) (group t b) x y e =
      let place = placed s t e in
      let r = same_numbers a b x y place.1 in
      (ap (λ u. group u a) place.0 ∙ ap (group t) r.0, r.1)
  same_numbers s t x y e = absurd (false≢true (ap (λ l. eqb (first_number l) (first_number (numbers t y))) e))

  pub same_all_numbers : (s t : Terms) (x y : List Gv) → all_numbers s x ≡ all_numbers t y → (s ≡ t) × (x ≡ y)
  same_all_numbers no_terms no_terms x y e = (refl, ap rest_of e)
  same_all_numbers (and_term a ts) (and_term b us) x y e =
      let first = same_numbers a b (all_numbers ts x) (all_numbers us y) (ap rest_of e) in
      let second = same_all_numbers ts us x y first.1 in
      (ap (λ u. and_term u ts) first.0 ∙ ap (and_term b) second.0, second.1)
  same_all_numbers _ _ x y e = cc

-- a code is its own code
abbrev itself : Coded Gv
itself = record { code = λ g. g; inj = λ x y p. p }

abbrev pub term_code : Coded Term
term_code = coded_via (coded_list itself) (λ t. numbers t []) (λ s t e. (same_numbers s t [] [] e).0)
