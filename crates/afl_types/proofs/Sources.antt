-- Calls of operators on a source, by the list of their arguments.
use Rattle.std.proofs.Common.{◌≡◌, ◌+◌, ◌<◌, ◌≤◌, ℕ, Some, Err, Option, Result, List, [], ◌∷◌, length, take, drop, get_or, ◌-◌, refl, sym, ap, subst, ◌∙◌, arith}
use Rattle.std.proofs.lemmas.List.{take_all}
use Rattle.cell_values.specs.declared.name.Span.{Span}
use Rattle.schema_grammar.specs.declared.kinds.TypeKind.TheVariants.{WrongCount}
use Rattle.afl_trees.specs.Term.{Term, term_size, terms_size, to_terms}
use Rattle.logical_plan.specs.Query.{Query}
use Rattle.logical_plan.specs.declared.names.NameEntry.{NameEntry}
use Rattle.check_rules.specs.Checked.{Answers, Checked, refused}
use Rattle.check_rules.specs.Operators.{operator_named}
use Rattle.check_rules.specs.declared.rules.fault.TypeFault.{TypeFault}
use Rattle.check_rules.specs.declared.rules.fault.TypeFault.TheVariants.{Rule}
use Rattle.check_rules.specs.Sorts.{to_list}
use Rattle.afl_types.specs.Calls.{call_of}
use Rattle.afl_types.specs.Content.{content_span}
use Rattle.afl_types.specs.Queries.{called, over, over_two, query_of}
use Rattle.afl_types.specs.declared.queries.call.Call.{Call}
use Rattle.afl_types.specs.declared.queries.call.Call.TheVariants.{Over, Two}
use Rattle.afl_types.specs.declared.queries.call.OverSource.{OverSource}
use Rattle.afl_types.specs.declared.queries.call.OverTwo.{OverTwo}

listed : (xs : List Term) → to_list (to_terms xs) ≡ xs
listed [] = refl
listed (x ∷ xs) = ap (λ ts. x ∷ ts) (listed xs)

-- arguments of which there are some
pub some_first : (xs : List Term) (x : Term) → 1 ≤ length xs → x ≡ get_or xs 0 x → xs ≡ x ∷ take (length xs - 1) (drop 1 xs)
some_first [] x some e = absurd (omega (arith, some))
some_first (y ∷ xs) x some e =
    sym (ap (λ (t : Term). t ∷ take (length (y ∷ xs) - 1) xs) e ∙ ap (λ (ts : List Term). y ∷ ts) (take_all (length (y ∷ xs) - 1) xs (omega arith)))

-- arguments of which there are two and more
pub two_first : (xs : List Term) (x y : Term) → 2 ≤ length xs → x ≡ get_or xs 0 x → y ≡ get_or xs 1 y → xs ≡ x ∷ y ∷ take (length xs - 2) (drop 2 xs)
two_first [] x y some e f = absurd (omega (arith, some))
two_first (a ∷ []) x y some e f = absurd (omega (arith, some))
two_first (a ∷ b ∷ xs) x y some e f =
    ap (λ (t : Term). t ∷ b ∷ xs) (sym e) ∙ ap (λ (t : Term). x ∷ t ∷ xs) (sym f) ∙ ap (λ (ts : List Term). x ∷ y ∷ ts) (sym (take_all (length (a ∷ b ∷ xs) - 2) xs (omega arith)))

-- arguments are no larger than all of them

pub first_smaller : (xs : List Term) (x : Term) → 1 ≤ length xs → x ≡ get_or xs 0 x → term_size x ≤ terms_size (to_terms xs)
first_smaller [] x some e = absurd (omega (arith, some))
first_smaller (a ∷ xs) x some e =
    let same : term_size x ≡ term_size a = ap term_size e in
    let sum : terms_size (to_terms (a ∷ xs)) ≡ term_size a + terms_size (to_terms xs) = refl in
    omega (arith, same, sum)

pub two_smaller : (xs : List Term) (x y : Term) → 2 ≤ length xs → x ≡ get_or xs 0 x → y ≡ get_or xs 1 y → term_size x + term_size y ≤ terms_size (to_terms xs)
two_smaller [] x y some e f = absurd (omega (arith, some))
two_smaller (a ∷ []) x y some e f = absurd (omega (arith, some))
two_smaller (a ∷ b ∷ xs) x y some e f =
    let first : term_size x ≡ term_size a = ap term_size e in
    let second : term_size y ≡ term_size b = ap term_size f in
    let sum : terms_size (to_terms (a ∷ b ∷ xs)) ≡ term_size a + (term_size b + terms_size (to_terms xs)) = refl in
    omega (arith, first, second, sum)

module _ (arrays : List NameEntry) (s : Span) (name : List ℕ) (operator : OverSource) where
  pub with_source : (r : Result Query TypeFault) (xs : List Term) (source : Term) (rest : List Term) → xs ≡ source ∷ rest
      → Answers r (over s operator (content_span source) (query_of arrays source) rest)
      → Answers r (called arrays s name (Some (Over operator)) (to_terms xs))
  with_source r xs source rest e h =
      subst (λ (ts : List Term). Answers r (called arrays s name (Some (Over operator)) (to_terms ts))) (sym e)
      (subst (λ (ts : List Term). Answers r (over s operator (content_span source) (query_of arrays source) ts)) (sym (listed rest)) h)

  pub without_source : (xs : List Term) → length xs < 1 → called arrays s name (Some (Over operator)) (to_terms xs) ≡ refused s WrongCount
  without_source [] none = refl
  without_source (x ∷ xs) none = absurd (omega (arith, none))

module _ (arrays : List NameEntry) (s : Span) (name : List ℕ) (operator : OverTwo) where
  pub with_two : (r : Result Query TypeFault) (xs : List Term) (left right : Term) (rest : List Term) → xs ≡ left ∷ right ∷ rest
      → Answers r (over_two s operator (content_span left) (query_of arrays left) (query_of arrays right) rest)
      → Answers r (called arrays s name (Some (Two operator)) (to_terms xs))
  with_two r xs left right rest e h =
      subst (λ (ts : List Term). Answers r (called arrays s name (Some (Two operator)) (to_terms ts))) (sym e)
      (subst (λ (ts : List Term). Answers r (over_two s operator (content_span left) (query_of arrays left) (query_of arrays right) ts)) (sym (listed rest)) h)

  pub without_two : (xs : List Term) → length xs < 2 → called arrays s name (Some (Two operator)) (to_terms xs) ≡ refused s WrongCount
  without_two [] none = refl
  without_two (x ∷ []) none = refl
  without_two (x ∷ y ∷ xs) none = absurd (omega (arith, none))

-- a call of an operator on a source or two, by what the operator's name calls

module _ (arrays : List NameEntry) (s : Span) (name : List ℕ) (call : Option Call) (is : call ≡ call_of (operator_named name))
    (r : Result Query TypeFault) (xs : List Term) where
  by_call : (meant : Call) → call ≡ Some meant → Answers r (called arrays s name (Some meant) (to_terms xs))
      → Answers r (called arrays s name (call_of (operator_named name)) (to_terms xs))
  by_call meant e h = subst (λ (o : Option Call). Answers r (called arrays s name o (to_terms xs))) (sym e ∙ is) h

  pub one_called : (operator : OverSource) → call ≡ Some (Over operator) → (source : Term) → 1 ≤ length xs → source ≡ get_or xs 0 source
      → Answers r (over s operator (content_span source) (query_of arrays source) (take (length xs - 1) (drop 1 xs)))
      → Answers r (called arrays s name (call_of (operator_named name)) (to_terms xs))
  one_called operator e source some first h =
      by_call (Over operator) e (with_source arrays s name operator r xs source (take (length xs - 1) (drop 1 xs)) (some_first xs source some first) h)

  pub two_called : (operator : OverTwo) → call ≡ Some (Two operator) → (left right : Term) → 2 ≤ length xs → left ≡ get_or xs 0 left
      → right ≡ get_or xs 1 right
      → Answers r (over_two s operator (content_span left) (query_of arrays left) (query_of arrays right) (take (length xs - 2) (drop 2 xs)))
      → Answers r (called arrays s name (call_of (operator_named name)) (to_terms xs))
  two_called operator e left right some first second h =
      by_call (Two operator) e (with_two arrays s name operator r xs left right (take (length xs - 2) (drop 2 xs))
      (two_first xs left right some first second) h)

module _ (arrays : List NameEntry) (s : Span) (name : List ℕ) (call : Option Call) (is : call ≡ call_of (operator_named name)) (xs : List Term)
    (fault : TypeFault) (broken : fault ≡ Rule s WrongCount) where
  miscounted : (checked : Checked Query) → checked ≡ refused s WrongCount → Answers {A = Query} (Err fault) checked
  miscounted checked e = subst (λ (x : TypeFault). Answers {A = Query} (Err x) checked) (sym broken) e

  pub none_called : (operator : OverSource) → call ≡ Some (Over operator) → length xs < 1
      → Answers {A = Query} (Err fault) (called arrays s name (call_of (operator_named name)) (to_terms xs))
  none_called operator e none =
      by_call arrays s name call is (Err fault) xs (Over operator) e
      (miscounted (called arrays s name (Some (Over operator)) (to_terms xs)) (without_source arrays s name operator xs none))

  pub few_called : (operator : OverTwo) → call ≡ Some (Two operator) → length xs < 2
      → Answers {A = Query} (Err fault) (called arrays s name (call_of (operator_named name)) (to_terms xs))
  few_called operator e none =
      by_call arrays s name call is (Err fault) xs (Two operator) e
      (miscounted (called arrays s name (Some (Two operator)) (to_terms xs)) (without_two arrays s name operator xs none))
