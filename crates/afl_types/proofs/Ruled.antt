-- What is made of sources that were checked.
use Rattle.std.proofs.Common.{◌≡◌, Bool, true, false, Ok, Err, Result, List, length, refl, sym, subst, ◌∙◌}
use Rattle.std.proofs.lemmas.Bool.{false≢true}
use Rattle.cell_values.specs.declared.name.Span.{Span}
use Rattle.schema_grammar.specs.declared.kinds.TypeKind.TheVariants.{WrongCount}
use Rattle.afl_trees.specs.Term.{Term}
use Rattle.logical_plan.specs.Query.{Query}
use Rattle.check_rules.specs.Checked.{Answers, Checked, demand, then}
use Rattle.check_rules.specs.declared.rules.fault.TypeFault.{TypeFault}
use Rattle.check_rules.specs.declared.rules.fault.TypeFault.TheVariants.{Rule}
use Rattle.check_rules.proofs.Steps.{err_then, ok_then}
use Rattle.afl_types.specs.Calls.{fits_count, fits_two, ruled, ruled_two}
use Rattle.afl_types.specs.Queries.{over, over_two}
use Rattle.afl_types.specs.declared.queries.call.OverSource.{OverSource}
use Rattle.afl_types.specs.declared.queries.call.OverTwo.{OverTwo}

module _ (next : Query → Checked Query) (r : Result Query TypeFault) where
  pub ok_source : (result : Result Query TypeFault) (source : Query) → r ≡ Ok source → Answers result (next source) → (checked : Checked Query)
      → Answers r checked → Answers result (then checked next)
  ok_source result source is h checked e = ok_then result checked next source (subst (λ (x : Result Query TypeFault). Answers x checked) is e) h

  pub err_source : (fault : TypeFault) → r ≡ Err fault → (checked : Checked Query) → Answers r checked → Answers {A = Query} (Err fault) (then checked next)
  err_source fault is checked e = err_then fault checked next (subst (λ (x : Result Query TypeFault). Answers x checked) is e)

-- what a count asks, where it holds and where it does not

pub fitting : (r : Result Query TypeFault) (fits test : Bool) (s : Span) (next : Checked Query) → test ≡ fits → test ≡ true → Answers r next
    → Answers r (demand fits s WrongCount next)
fitting r true test s next e f h = h
fitting r false test s next e f h = absurd (false≢true (sym e ∙ f))

pub unfitting : (fault : TypeFault) (fits test : Bool) (s : Span) (next : Checked Query) → test ≡ fits → test ≡ false → fault ≡ Rule s WrongCount
    → Answers {A = Query} (Err fault) (demand fits s WrongCount next)
unfitting fault true test s next e f is = absurd (false≢true (sym f ∙ e))
unfitting fault false test s next e f is = subst (λ (x : TypeFault). Answers {A = Query} (Err x) (demand false s WrongCount next)) (sym is) refl

pub over_fits : (s : Span) (operator : OverSource) (arguments : List Term) (r source : Result Query TypeFault) (checked : Checked Query)
    (at place : Span) → at ≡ place → (test : Bool) → test ≡ fits_count operator (length arguments) → test ≡ true
    → ((c : Checked Query) → Answers source c → Answers r (then c (λ plan. ruled s operator at plan arguments)))
    → Answers source checked → Answers r (over s operator place checked arguments)
over_fits s operator arguments r source checked at place same test e f h is =
    fitting r (fits_count operator (length arguments)) test s (then checked (λ plan. ruled s operator place plan arguments)) e f
    (subst (λ (x : Span). Answers r (then checked (λ plan. ruled s operator x plan arguments))) same (h checked is))

pub two_fit : (s : Span) (operator : OverTwo) (arguments : List Term) (r left right : Result Query TypeFault) (a b : Checked Query)
    (at place : Span) → at ≡ place → (test : Bool) → test ≡ fits_two operator (length arguments) → test ≡ true
    → ((x y : Checked Query) → Answers left x → Answers right y → Answers r (then x (λ l. then y (λ r. ruled_two s operator at l r arguments))))
    → Answers left a → Answers right b → Answers r (over_two s operator place a b arguments)
two_fit s operator arguments r left right a b at place same test e f h is also =
    fitting r (fits_two operator (length arguments)) test s (then a (λ l. then b (λ r. ruled_two s operator place l r arguments))) e f
    (subst (λ (x : Span). Answers r (then a (λ l. then b (λ r. ruled_two s operator x l r arguments)))) same (h a b is also))

pub over_unfit : (s : Span) (operator : OverSource) (arguments : List Term) (fault : TypeFault) (checked : Checked Query) (place : Span) (test : Bool)
    → test ≡ fits_count operator (length arguments) → test ≡ false → fault ≡ Rule s WrongCount → Answers {A = Query} (Err fault)
    (over s operator place checked arguments)
over_unfit s operator arguments fault checked place test e f broken =
    unfitting fault (fits_count operator (length arguments)) test s (then checked (λ plan. ruled s operator place plan arguments)) e f broken

pub two_unfit : (s : Span) (operator : OverTwo) (arguments : List Term) (fault : TypeFault) (a b : Checked Query) (place : Span) (test : Bool)
    → test ≡ fits_two operator (length arguments) → test ≡ false → fault ≡ Rule s WrongCount → Answers {A = Query} (Err fault)
    (over_two s operator place a b arguments)
two_unfit s operator arguments fault a b place test e f broken =
    unfitting fault (fits_two operator (length arguments)) test s (then a (λ l. then b (λ r. ruled_two s operator place l r arguments))) e f broken
