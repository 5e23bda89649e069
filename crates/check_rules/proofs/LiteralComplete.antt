-- What spells a literal is read as it.
use Rattle.std.proofs.Common.{◌≡◌, inl, inr, Bool, true, false, Some, List, [], ◌∷◌, ◌++◌, sym, ap, ◌∙◌, append_assoc}
use Rattle.cell_values.specs.declared.datum.Datum.{Datum}
use Rattle.afl_lexer.specs.declared.token.Symbol.TheVariants.{RightParen, RightBracket, Comma}
use Rattle.check_rules.specs.declared.literals.literal.Mark.{Mark}
use Rattle.check_rules.specs.declared.literals.literal.Mark.TheVariants.{Symbol}
use Rattle.check_rules.specs.declared.literals.literal.Place.TheVariants.{Start, First, Next, Opened, Further, Valued, Ended}
use Rattle.check_rules.specs.Literals.{SpellsValue, SpellsValues, SpellsElement, SpellsElements, SpellsLiteral}
use Rattle.check_rules.specs.Inner.Reader.{begun, read_marks}

module _ (bare : Bool) (es : List (List Datum)) where
  read_value : (vs : List Datum) (v : Datum) (xs zs : List Mark) → SpellsValue v xs zs → read_marks bare xs (begun es (Further vs)) ≡ read_marks bare zs (begun es (Valued (vs ++ v ∷ [])))
  read_value vs v xs zs (inl e) = ap (λ (ms : List Mark). read_marks bare ms (begun es (Further vs))) e
  read_value vs v xs zs (inr (n, same, e)) =
      ap (λ (ms : List Mark). read_marks bare ms (begun es (Further vs))) e
      ∙ ap (λ (w : Datum). read_marks bare zs (begun es (Valued (vs ++ w ∷ [])))) (sym same)

  read_first : (v : Datum) (xs zs : List Mark) → SpellsValue v xs zs → read_marks bare xs (begun es Opened) ≡ read_marks bare zs (begun es (Valued (v ∷ [])))
  read_first v xs zs (inl e) = ap (λ (ms : List Mark). read_marks bare ms (begun es Opened)) e
  read_first v xs zs (inr (n, same, e)) =
      ap (λ (ms : List Mark). read_marks bare ms (begun es Opened)) e
      ∙ ap (λ (w : Datum). read_marks bare zs (begun es (Valued (w ∷ [])))) (sym same)

  read_values : (ws : List Datum) (v : Datum) (vs : List Datum) (xs zs : List Mark) → SpellsValues v vs xs zs
      → read_marks bare xs (begun es (Further ws)) ≡ read_marks bare zs (begun (es ++ (ws ++ v ∷ vs) ∷ []) Ended)
  read_values ws v [] xs zs h = read_value ws v xs (Symbol RightParen ∷ zs) h
  read_values ws v (w ∷ vs) xs zs (ys, h, r) =
      read_value ws v xs (Symbol Comma ∷ ys) h
      ∙ read_values (ws ++ v ∷ []) w vs ys zs r
      ∙ ap (λ (us : List Datum). read_marks bare zs (begun (es ++ us ∷ []) Ended)) (append_assoc ws (v ∷ []) (w ∷ vs))

  read_opened : (v : Datum) (vs : List Datum) (xs zs : List Mark) → SpellsValues v vs xs zs → read_marks bare xs (begun es Opened) ≡ read_marks bare zs (begun (es ++ (v ∷ vs) ∷ []) Ended)
  read_opened v [] xs zs h = read_first v xs (Symbol RightParen ∷ zs) h
  read_opened v (w ∷ vs) xs zs (ys, h, r) = read_first v xs (Symbol Comma ∷ ys) h ∙ read_values (v ∷ []) w vs ys zs r

-- an element without brackets
read_bare : (es : List (List Datum)) (v : Datum) (xs zs : List Mark) → SpellsValue v xs zs → read_marks true xs (begun es Next) ≡ read_marks true zs (begun (es ++ (v ∷ []) ∷ []) Ended)
read_bare es v xs zs (inl e) = ap (λ (ms : List Mark). read_marks true ms (begun es Next)) e
read_bare es v xs zs (inr (n, same, e)) =
    ap (λ (ms : List Mark). read_marks true ms (begun es Next)) e
    ∙ ap (λ (w : Datum). read_marks true zs (begun (es ++ (w ∷ []) ∷ []) Ended)) (sym same)

read_element : (bare : Bool) (es : List (List Datum)) (e : List Datum) (xs zs : List Mark) → SpellsElement bare e xs zs → read_marks bare xs (begun es Next) ≡ read_marks bare zs (begun (es ++ e ∷ []) Ended)
read_element bare es [] xs zs h = ap (λ (ms : List Mark). read_marks bare ms (begun es Next)) h
read_element bare es (v ∷ vs) xs zs (inl (ys, e, h)) = ap (λ (ms : List Mark). read_marks bare ms (begun es Next)) e ∙ read_opened bare es v vs ys zs h
read_element true es (v ∷ vs) xs zs (inr (t, none, h)) = read_bare es v xs zs h ∙ ap (λ (us : List Datum). read_marks true zs (begun (es ++ (v ∷ us) ∷ []) Ended)) (sym none)
read_element false es (v ∷ vs) xs zs (inr (t, none, h)) = cc

-- the first element, behind the bracket, is read as each other
read_bare_first : (es : List (List Datum)) (v : Datum) (xs zs : List Mark) → SpellsValue v xs zs → read_marks true xs (begun es First) ≡ read_marks true xs (begun es Next)
read_bare_first es v xs zs (inl e) = ap (λ (ms : List Mark). read_marks true ms (begun es First)) e ∙ sym (ap (λ (ms : List Mark). read_marks true ms (begun es Next)) e)
read_bare_first es v xs zs (inr (n, same, e)) = ap (λ (ms : List Mark). read_marks true ms (begun es First)) e ∙ sym (ap (λ (ms : List Mark). read_marks true ms (begun es Next)) e)

first_as_next : (bare : Bool) (es : List (List Datum)) (e : List Datum) (xs zs : List Mark) → SpellsElement bare e xs zs → read_marks bare xs (begun es First) ≡ read_marks bare xs (begun es Next)
first_as_next bare es [] xs zs h = ap (λ (ms : List Mark). read_marks bare ms (begun es First)) h ∙ sym (ap (λ (ms : List Mark). read_marks bare ms (begun es Next)) h)
first_as_next bare es (v ∷ vs) xs zs (inl (ys, e, h)) = ap (λ (ms : List Mark). read_marks bare ms (begun es First)) e ∙ sym (ap (λ (ms : List Mark). read_marks bare ms (begun es Next)) e)
first_as_next true es (v ∷ vs) xs zs (inr (t, none, h)) = read_bare_first es v xs zs h
first_as_next false es (v ∷ vs) xs zs (inr (t, none, h)) = cc

read_elements : (bare : Bool) (es : List (List Datum)) (e : List Datum) (fs : List (List Datum)) (xs : List Mark) → SpellsElements bare e fs xs → read_marks bare xs (begun es Next) ≡ Some (es ++ e ∷ fs)
read_elements bare es e [] xs h = read_element bare es e xs (Symbol RightBracket ∷ []) h
read_elements bare es e (f ∷ fs) xs (ys, h, r) =
    read_element bare es e xs (Symbol Comma ∷ ys) h
    ∙ read_elements bare (es ++ e ∷ []) f fs ys r
    ∙ ap Some (append_assoc es (e ∷ []) (f ∷ fs))

first_elements : (bare : Bool) (e : List Datum) (fs : List (List Datum)) (xs : List Mark) → SpellsElements bare e fs xs → read_marks bare xs (begun [] First) ≡ read_marks bare xs (begun [] Next)
first_elements bare e [] xs h = first_as_next bare [] e xs (Symbol RightBracket ∷ []) h
first_elements bare e (f ∷ fs) xs (ys, h, r) = first_as_next bare [] e xs (Symbol Comma ∷ ys) h

pub complete : (bare : Bool) (es : List (List Datum)) (xs : List Mark) → SpellsLiteral bare es xs → read_marks bare xs (begun [] Start) ≡ Some es
complete bare [] xs h = ap (λ (ms : List Mark). read_marks bare ms (begun [] Start)) h
complete bare (e ∷ es) xs (ys, at, h) =
    ap (λ (ms : List Mark). read_marks bare ms (begun [] Start)) at
    ∙ first_elements bare e es ys h
    ∙ read_elements bare [] e es ys h
