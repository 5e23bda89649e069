-- What `slice` fixes: dimensions that there are, each once.
use Rattle.std.proofs.Common.{◌≡◌, ℕ, ◌<◌, ◌==◌, ℤ, Bool, true, false, not, ◌&&◌, ◌||◌, List, [], ◌∷◌, ◌++◌, length, Option, Some, None, IfOk, refl, sym, ap, ◌∙◌}
use Rattle.std.specs.Prelude.{nat_lt, position}
use Rattle.std.specs.List.{list_any}
use Rattle.std.specs.Str.{bytes_eq}
use Rattle.std.proofs.lemmas.Bool.{and_parts, and_from, or_parts, not-true, lt-ltb, ne_eqb, eq-eqb}
use Rattle.std.proofs.lemmas.List.{map-append}
use Rattle.std.proofs.lemmas.List.Folds.{list_any-append, list_all-append}
use Rattle.std.proofs.lemmas.List.Quantifiers.{position-Some}
use Rattle.cell_values.specs.declared.name.Span.{Span}
use Rattle.cell_values.specs.declared.schema.Dimension.{Dimension}
use Rattle.schema_grammar.specs.declared.kinds.TypeKind.TheVariants.{RepeatedName}
use Rattle.afl_trees.specs.Term.{Term, reference}
use Rattle.afl_trees.specs.Grammar.{span_of}
use Rattle.logical_plan.specs.BoxOps.{fixed_places}
use Rattle.logical_plan.specs.Typing.{are_below, are_apart}
use Rattle.logical_plan.specs.declared.parts.Fixed.{Fixed}
use Rattle.check_rules.proofs.RulesHolding.{demanded, thens, of_answer}
use Rattle.check_exprs.specs.Expressions.{dimension_place}
use Rattle.check_rules.specs.InTurn.{new_place}
use Rattle.check_rules.specs.Sorts.{number_in}
use Rattle.check_rules.proofs.Names.{or_none}
use Rattle.check_cellwise.specs.Slice.{fixed_at, fixed_one}

position_below : {A : Type 0} (p : A → Bool) (xs : List A) (i : ℕ) → position p xs ≡ Some i → i < length xs
position_below p [] i e = cc
position_below p (x ∷ xs) i e = (position-Some p (x ∷ xs) i x e).0

differ_back : (m n : ℕ) → (m == n) ≡ false → (n == m) ≡ false
differ_back m n e = ne_eqb n m (λ same. no (eq-eqb m n (sym same)))
  where
    no : (m == n) ≡ true → ⊥
    no f = cc

apart_more : (ps : List ℕ) (p : ℕ) → are_apart ps ≡ true → list_any (λ other. other == p) ps ≡ false → are_apart (ps ++ p ∷ []) ≡ true
apart_more [] p a none = refl
apart_more (n ∷ ps) p a none =
    let x = and_parts (not (list_any (λ m. m == n) ps)) (are_apart ps) a in
    let y = or_parts (n == p) (list_any (λ other. other == p) ps) none in
    let fresh : list_any (λ m. m == n) (ps ++ p ∷ []) ≡ false
    = list_any-append (λ m. m == n) ps (p ∷ []) ∙ or_none (list_any (λ m. m == n) ps) (p == n || false) (not-true (list_any (λ m. m == n) ps) x.0) (ap (λ b. b || false) (differ_back n p y.0)) in
    and_from (not (list_any (λ m. m == n) (ps ++ p ∷ []))) (are_apart (ps ++ p ∷ [])) (ap not fresh) (apart_more ps p x.1 y.1)

module _ (dims : List Dimension) where
  pub record Held (done : List Fixed) : Type 0 where
    pub below : are_below (length dims) (fixed_places done) ≡ true
    pub apart : are_apart (fixed_places done) ≡ true

  with_fixed : (done : List Fixed) (place : ℕ) (n : ℤ) → place < length dims → list_any (λ other. other == place) (fixed_places done) ≡ false → Held done → Held (done ++ record { dimension = place; at = n } ∷ [])
  with_fixed done place n lt none held =
      let more : fixed_places (done ++ record { dimension = place; at = n } ∷ []) ≡ fixed_places done ++ place ∷ [] = map-append (λ (f : Fixed). f.dimension) done (record { dimension = place; at = n } ∷ []) in
      record {
        below = ap (are_below (length dims)) more ∙ list_all-append (λ p. nat_lt p (length dims)) (fixed_places done) (place ∷ [])
            ∙ and_from (are_below (length dims) (fixed_places done)) (nat_lt place (length dims) && true) held.below (ap (λ b. b && true) (lt-ltb place (length dims) lt));
        apart = ap are_apart more ∙ apart_more (fixed_places done) place held.apart none;
      }

  held_at : (s : Span) (done : List Fixed) (place : ℕ) (o : Option ℤ) → place < length dims → list_any (λ other. other == place) (fixed_places done) ≡ false → Held done → IfOk (fixed_at s place o) (λ z. Held (done ++ z ∷ []))
  held_at s done place None lt none held = tt
  held_at s done place (Some n) lt none held = with_fixed done place n lt none held

  -- a place that is new, and below the number of dimensions
  abbrev IsNewPlace : List Fixed → ℕ → Type 0
  IsNewPlace done place = (place < length dims) × (list_any (λ other. other == place) (fixed_places done) ≡ false)

  new_there : (s : Span) (name : List ℕ) (done : List Fixed) (o : Option ℕ) → dimension_place dims name ≡ o → IfOk (new_place s (fixed_places done) o) (IsNewPlace done)
  new_there s name done None e = tt
  new_there s name done (Some place) e =
      demanded (IsNewPlace done) (not (list_any (λ other. other == place) (fixed_places done))) s RepeatedName _ (λ fresh.
      (position_below (λ (dimension : Dimension). bytes_eq dimension.name name) dims place e, not-true (list_any (λ other. other == place) (fixed_places done)) fresh))

  pub holds_one : (done : List Fixed) (t n : Term) → Held done → IfOk (fixed_one dims done t n) (λ z. Held (done ++ z ∷ []))
  holds_one done (reference s name) n held =
      thens (λ z. Held (done ++ z ∷ [])) (new_place s (fixed_places done) (dimension_place dims name)) _ (λ place e.
      let new = of_answer (IsNewPlace done) (new_place s (fixed_places done) (dimension_place dims name)) place (new_there s name done (dimension_place dims name) refl) e in
      held_at (span_of n) done place (number_in n) new.0 new.1 held)
  holds_one done t n held = tt
