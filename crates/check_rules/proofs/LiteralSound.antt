-- What is read as a literal spells it.
use Rattle.std.proofs.Common.{◌≡◌, ◌⊎◌, inl, inr, ℤ, Bool, true, false, Some, List, [], ◌∷◌, ◌++◌, refl, sym, ap, subst, ◌∙◌, append_assoc, append-nil}
use Rattle.std.proofs.lemmas.Option.{none-some}
use Rattle.cell_values.specs.Table.{negation}
use Rattle.cell_values.specs.declared.datum.Datum.{Datum}
use Rattle.cell_values.specs.declared.datum.Datum.TheVariants.{Int}
use Rattle.afl_lexer.specs.declared.token.Symbol.TheVariants.{LeftParen, RightParen, LeftBracket, RightBracket, Comma, Minus}
use Rattle.check_rules.specs.declared.literals.literal.Mark.{Mark}
use Rattle.check_rules.specs.declared.literals.literal.Mark.TheVariants.{Value, Symbol}
use Rattle.check_rules.specs.declared.literals.literal.Place.{Place}
use Rattle.check_rules.specs.declared.literals.literal.Place.TheVariants.{Start, First, Next, Negative, Opened, Further, Signed, Valued, Ended, Closed}
use Rattle.check_rules.specs.Literals.{SpellsValue, SpellsValues, SpellsElement, SpellsElements, SpellsLiteral}
use Rattle.check_rules.specs.Inner.Reader.{begun, read_marks}

-- the marks behind an element are those of further ones
abbrev After : Bool → List (List Datum) → List Mark → Type 0
After bare [] xs = xs ≡ Symbol RightBracket ∷ []
After bare (f ∷ fs) xs = (ys : List Mark) × (xs ≡ Symbol Comma ∷ ys) × SpellsElements bare f fs ys

elements_of : (bare : Bool) (e : List Datum) (fs : List (List Datum)) (xs zs : List Mark) → SpellsElement bare e xs zs → After bare fs zs → SpellsElements bare e fs xs
elements_of bare e [] xs zs h a = subst (SpellsElement bare e xs) a h
elements_of bare e (f ∷ fs) xs zs h (ys, at, r) = (ys, subst (SpellsElement bare e xs) at h, r)

-- the marks behind a value of an element are those of further ones
abbrev More : List Datum → List Mark → List Mark → Type 0
More [] xs zs = xs ≡ Symbol RightParen ∷ zs
More (w ∷ ws) xs zs = (ys : List Mark) × (xs ≡ Symbol Comma ∷ ys) × SpellsValues w ws ys zs

values_of : (v : Datum) (ws : List Datum) (xs ys zs : List Mark) → SpellsValue v xs ys → More ws ys zs → SpellsValues v ws xs zs
values_of v [] xs ys zs h m = subst (SpellsValue v xs) m h
values_of v (w ∷ ws) xs ys zs h (us, at, r) = (us, subst (SpellsValue v xs) at h, r)

abbrev InBrackets : List Datum → List Mark → List Mark → Type 0
InBrackets [] xs zs = xs ≡ Symbol RightParen ∷ zs
InBrackets (v ∷ vs) xs zs = SpellsValues v vs xs zs

-- an element and what stands behind it
pub record NextElement (bare : Bool) (rest : List (List Datum)) (xs : List Mark) : Type 0 where
  pub element : List Datum
  pub further : List (List Datum)
  pub behind : List Mark
  pub same : rest ≡ element ∷ further
  pub spelled : SpellsElement bare element xs behind
  pub after : After bare further behind

-- behind these values of an element, another one and what stands behind it
pub record NextValue (bare : Bool) (vs : List Datum) (rest : List (List Datum)) (xs : List Mark) : Type 0 where
  pub value : Datum
  pub values : List Datum
  pub further : List (List Datum)
  pub behind : List Mark
  pub same : rest ≡ (vs ++ value ∷ values) ∷ further
  pub spelled : SpellsValues value values xs behind
  pub after : After bare further behind

-- behind these values of an element
pub record NextMark (bare : Bool) (vs : List Datum) (rest : List (List Datum)) (xs : List Mark) : Type 0 where
  pub values : List Datum
  pub further : List (List Datum)
  pub behind : List Mark
  pub same : rest ≡ (vs ++ values) ∷ further
  pub spelled : More values xs behind
  pub after : After bare further behind

pub record NextNumber (bare : Bool) (vs : List Datum) (rest : List (List Datum)) (xs : List Mark) : Type 0 where
  pub number : ℤ
  pub marks : List Mark
  pub at : xs ≡ Value (Int number) ∷ marks
  pub next : NextMark bare (vs ++ negation (Int number) ∷ []) rest marks

pub record BareNumber (bare : Bool) (rest : List (List Datum)) (xs : List Mark) : Type 0 where
  pub number : ℤ
  pub marks : List Mark
  pub further : List (List Datum)
  pub at : xs ≡ Value (Int number) ∷ marks
  pub same : rest ≡ (negation (Int number) ∷ []) ∷ further
  pub after : After bare further marks

pub record Brackets (bare : Bool) (rest : List (List Datum)) (xs : List Mark) : Type 0 where
  pub element : List Datum
  pub further : List (List Datum)
  pub behind : List Mark
  pub same : rest ≡ element ∷ further
  pub spelled : InBrackets element xs behind
  pub after : After bare further behind

-- From this place on the marks are those of the rest. Where an element is open, the rest begins with it. An element without brackets
-- is read only where it may be.
abbrev Continues : Bool → Place → List (List Datum) → List Mark → Type 0
Continues bare Start rest xs = SpellsLiteral bare rest xs
Continues bare First rest xs = ((rest ≡ []) × (xs ≡ Symbol RightBracket ∷ [])) ⊎ NextElement bare rest xs
Continues bare Next rest xs = NextElement bare rest xs
Continues bare Negative rest xs = BareNumber bare rest xs
Continues bare Opened rest xs = Brackets bare rest xs
Continues bare (Further vs) rest xs = NextValue bare vs rest xs
Continues bare (Signed vs) rest xs = NextNumber bare vs rest xs
Continues bare (Valued vs) rest xs = NextMark bare vs rest xs
Continues bare Ended rest xs = After bare rest xs
Continues bare Closed rest xs = (rest ≡ []) × (xs ≡ [])

-- all elements are those that were read and the rest
pub record Reads (bare : Bool) (es : List (List Datum)) (place : Place) (all : List (List Datum)) (xs : List Mark) : Type 0 where
  pub rest : List (List Datum)
  pub all_are : all ≡ es ++ rest
  pub marks : Continues bare place rest xs

-- Steps: from what is so behind a mark to what is so before it.

literal_is : (bare : Bool) (rest : List (List Datum)) (xs : List Mark) → Continues bare First rest xs → SpellsLiteral bare rest (Symbol LeftBracket ∷ xs)
literal_is bare rest xs (inl (none, at)) = subst (λ (r : List (List Datum)). SpellsLiteral bare r (Symbol LeftBracket ∷ xs)) (sym none) (ap (λ (ms : List Mark). Symbol LeftBracket ∷ ms) at)
literal_is bare rest xs (inr n) =
    subst (λ (r : List (List Datum)). SpellsLiteral bare r (Symbol LeftBracket ∷ xs)) (sym n.same)
    (xs, refl, elements_of bare n.element n.further xs n.behind n.spelled n.after)

-- an element that is whole, and what comes behind it
with_whole : (bare : Bool) (es : List (List Datum)) (e : List Datum) (all : List (List Datum)) (xs zs : List Mark) → SpellsElement bare e xs zs → Reads bare (es ++ e ∷ []) Ended all zs → Reads bare es Next all xs
with_whole bare es e all xs zs h r = record {
  rest = e ∷ r.rest;
  all_are = r.all_are ∙ append_assoc es (e ∷ []) r.rest;
  marks = record { element = e; further = r.rest; behind = zs; same = refl; spelled = h; after = r.marks };
}

opened_element : (bare : Bool) (e : List Datum) (xs zs : List Mark) → InBrackets e xs zs → SpellsElement bare e (Symbol LeftParen ∷ xs) zs
opened_element bare [] xs zs h = ap (λ (ms : List Mark). Symbol LeftParen ∷ ms) h
opened_element bare (v ∷ vs) xs zs h = inl (xs, refl, h)

next_opened : (bare : Bool) (es all : List (List Datum)) (xs : List Mark) → Reads bare es Opened all xs → Reads bare es Next all (Symbol LeftParen ∷ xs)
next_opened bare es all xs r = record {
  rest = r.rest;
  all_are = r.all_are;
  marks = record {
    element = r.marks.element;
    further = r.marks.further;
    behind = r.marks.behind;
    same = r.marks.same;
    spelled = opened_element bare r.marks.element xs r.marks.behind r.marks.spelled;
    after = r.marks.after;
  };
}

next_negative : (es all : List (List Datum)) (xs : List Mark) → Reads true es Negative all xs → Reads true es Next all (Symbol Minus ∷ xs)
next_negative es all xs r =
    let m = r.marks in record {
      rest = r.rest;
      all_are = r.all_are;
      marks = record {
        element = negation (Int m.number) ∷ [];
        further = m.further;
        behind = m.marks;
        same = m.same;
        spelled = inr (refl, refl, inr (m.number, refl, ap (λ (ms : List Mark). Symbol Minus ∷ ms) m.at));
        after = m.after;
      };
    }

next_number : (bare : Bool) (es all : List (List Datum)) (n : ℤ) (xs : List Mark) → Reads bare (es ++ (negation (Int n) ∷ []) ∷ []) Ended all xs → Reads bare es Negative all (Value (Int n) ∷ xs)
next_number bare es all n xs r = record {
  rest = (negation (Int n) ∷ []) ∷ r.rest;
  all_are = r.all_are ∙ append_assoc es ((negation (Int n) ∷ []) ∷ []) r.rest;
  marks = record { number = n; marks = xs; further = r.rest; at = refl; same = refl; after = r.marks };
}

empty_element : (bare : Bool) (es all : List (List Datum)) (xs : List Mark) → Reads bare (es ++ [] ∷ []) Ended all xs → Reads bare es Opened all (Symbol RightParen ∷ xs)
empty_element bare es all xs r = record {
  rest = [] ∷ r.rest;
  all_are = r.all_are ∙ append_assoc es ([] ∷ []) r.rest;
  marks = record { element = []; further = r.rest; behind = xs; same = refl; spelled = refl; after = r.marks };
}

-- a first value behind the bracket is read as one behind no values
opened_value : (bare : Bool) (es all : List (List Datum)) (xs : List Mark) → Reads bare es (Further []) all xs → Reads bare es Opened all xs
opened_value bare es all xs r =
    let m = r.marks in record {
      rest = r.rest;
      all_are = r.all_are;
      marks = record { element = m.value ∷ m.values; further = m.further; behind = m.behind; same = m.same; spelled = m.spelled; after = m.after };
    }

further_value : (bare : Bool) (es all : List (List Datum)) (vs : List Datum) (v : Datum) (xs : List Mark) → Reads bare es (Valued (vs ++ v ∷ [])) all xs → Reads bare es (Further vs) all (Value v ∷ xs)
further_value bare es all vs v xs r =
    let m = r.marks in record {
      rest = r.rest;
      all_are = r.all_are;
      marks = record {
        value = v;
        values = m.values;
        further = m.further;
        behind = m.behind;
        same = m.same ∙ ap (λ (us : List Datum). us ∷ m.further) (append_assoc vs (v ∷ []) m.values);
        spelled = values_of v m.values (Value v ∷ xs) xs m.behind (inl refl) m.spelled;
        after = m.after;
      };
    }

further_signed : (bare : Bool) (es all : List (List Datum)) (vs : List Datum) (xs : List Mark) → Reads bare es (Signed vs) all xs → Reads bare es (Further vs) all (Symbol Minus ∷ xs)
further_signed bare es all vs xs r =
    let s = r.marks in
    let m = s.next in
    let v : Datum = negation (Int s.number) in record {
      rest = r.rest;
      all_are = r.all_are;
      marks = record {
        value = v;
        values = m.values;
        further = m.further;
        behind = m.behind;
        same = m.same ∙ ap (λ (us : List Datum). us ∷ m.further) (append_assoc vs (v ∷ []) m.values);
        spelled = values_of v m.values (Symbol Minus ∷ xs) s.marks m.behind (inr (s.number, refl, ap (λ (ms : List Mark). Symbol Minus ∷ ms) s.at)) m.spelled;
        after = m.after;
      };
    }

signed_number : (bare : Bool) (es all : List (List Datum)) (vs : List Datum) (n : ℤ) (xs : List Mark) → Reads bare es (Valued (vs ++ negation (Int n) ∷ [])) all xs → Reads bare es (Signed vs) all (Value (Int n) ∷ xs)
signed_number bare es all vs n xs r = record { rest = r.rest; all_are = r.all_are; marks = record { number = n; marks = xs; at = refl; next = r.marks } }

valued_comma : (bare : Bool) (es all : List (List Datum)) (vs : List Datum) (xs : List Mark) → Reads bare es (Further vs) all xs → Reads bare es (Valued vs) all (Symbol Comma ∷ xs)
valued_comma bare es all vs xs r =
    let m = r.marks in record {
      rest = r.rest;
      all_are = r.all_are;
      marks = record { values = m.value ∷ m.values; further = m.further; behind = m.behind; same = m.same; spelled = (xs, refl, m.spelled); after = m.after };
    }

valued_end : (bare : Bool) (es all : List (List Datum)) (vs : List Datum) (xs : List Mark) → Reads bare (es ++ vs ∷ []) Ended all xs → Reads bare es (Valued vs) all (Symbol RightParen ∷ xs)
valued_end bare es all vs xs r = record {
  rest = vs ∷ r.rest;
  all_are = r.all_are ∙ append_assoc es (vs ∷ []) r.rest;
  marks = record { values = []; further = r.rest; behind = xs; same = ap (λ (us : List Datum). us ∷ r.rest) (sym (append-nil vs)); spelled = refl; after = r.marks };
}

ended_comma : (bare : Bool) (es all : List (List Datum)) (xs : List Mark) → Reads bare es Next all xs → Reads bare es Ended all (Symbol Comma ∷ xs)
ended_comma bare es all xs r =
    let m = r.marks in record {
      rest = r.rest;
      all_are = r.all_are;
      marks = subst (λ (s : List (List Datum)). After bare s (Symbol Comma ∷ xs)) (sym m.same) (xs, refl, elements_of bare m.element m.further xs m.behind m.spelled m.after);
    }

ended_end : (bare : Bool) (es all : List (List Datum)) (xs : List Mark) → Reads bare es Closed all xs → Reads bare es Ended all (Symbol RightBracket ∷ xs)
ended_end bare es all xs r = record {
  rest = r.rest;
  all_are = r.all_are;
  marks = subst (λ (s : List (List Datum)). After bare s (Symbol RightBracket ∷ xs)) (sym r.marks.0) (ap (λ (ms : List Mark). Symbol RightBracket ∷ ms) r.marks.1);
}

first_end : (bare : Bool) (es all : List (List Datum)) (xs : List Mark) → Reads bare es Closed all xs → Reads bare es First all (Symbol RightBracket ∷ xs)
first_end bare es all xs r = record { rest = r.rest; all_are = r.all_are; marks = inl (r.marks.0, ap (λ (ms : List Mark). Symbol RightBracket ∷ ms) r.marks.1) }

first_next : (bare : Bool) (es all : List (List Datum)) (xs : List Mark) → Reads bare es Next all xs → Reads bare es First all xs
first_next bare es all xs r = record { rest = r.rest; all_are = r.all_are; marks = inr r.marks }

start_first : (bare : Bool) (es all : List (List Datum)) (xs : List Mark) → Reads bare es First all xs → Reads bare es Start all (Symbol LeftBracket ∷ xs)
start_first bare es all xs r = record { rest = r.rest; all_are = r.all_are; marks = literal_is bare r.rest xs r.marks }

read_closed : (bare : Bool) (es all : List (List Datum)) → es ≡ all → Reads bare es Closed all []
read_closed bare es all e = record { rest = []; all_are = sym e ∙ sym (append-nil es); marks = (refl, refl) }

abbrev Sound : Bool → List Mark → Type 0
Sound bare xs = (es all : List (List Datum)) (place : Place) → read_marks bare xs (begun es place) ≡ Some all → Reads bare es place all xs

before_element : (bare : Bool) (x : Mark) (xs : List Mark) → Sound bare xs → (es all : List (List Datum)) → read_marks bare (x ∷ xs) (begun es Next) ≡ Some all → Reads bare es Next all (x ∷ xs)
before_element bare (Symbol LeftParen) xs later es all e = next_opened bare es all xs (later es all Opened e)
before_element true (Symbol Minus) xs later es all e = next_negative es all xs (later es all Negative e)
before_element true (Value v) xs later es all e = with_whole true es (v ∷ []) all (Value v ∷ xs) xs (inr (refl, refl, inl refl)) (later (es ++ (v ∷ []) ∷ []) all Ended e)
before_element true _ xs later es all e = absurd (none-some all e)
before_element false _ xs later es all e = absurd (none-some all e)

before_value : (bare : Bool) (x : Mark) (xs : List Mark) → Sound bare xs → (es all : List (List Datum)) (vs : List Datum) → read_marks bare (x ∷ xs) (begun es (Further vs)) ≡ Some all → Reads bare es (Further vs) all (x ∷ xs)
before_value bare (Symbol Minus) xs later es all vs e = further_signed bare es all vs xs (later es all (Signed vs) e)
before_value bare (Value v) xs later es all vs e = further_value bare es all vs v xs (later es all (Valued (vs ++ v ∷ [])) e)
before_value bare _ xs later es all vs e = absurd (none-some all e)

sound_step : (bare : Bool) (x : Mark) (xs : List Mark) → Sound bare xs → Sound bare (x ∷ xs)
sound_step bare (Symbol LeftBracket) xs later es all Start e = start_first bare es all xs (later es all First e)
sound_step bare (Symbol RightBracket) xs later es all First e = first_end bare es all xs (later es all Closed e)
sound_step bare x xs later es all First e = first_next bare es all (x ∷ xs) (before_element bare x xs later es all e)
sound_step bare x xs later es all Next e = before_element bare x xs later es all e
sound_step bare (Value (Int n)) xs later es all Negative e = next_number bare es all n xs (later (es ++ (negation (Int n) ∷ []) ∷ []) all Ended e)
sound_step bare (Symbol RightParen) xs later es all Opened e = empty_element bare es all xs (later (es ++ [] ∷ []) all Ended e)
sound_step bare x xs later es all Opened e = opened_value bare es all (x ∷ xs) (before_value bare x xs later es all [] e)
sound_step bare x xs later es all (Further vs) e = before_value bare x xs later es all vs e
sound_step bare (Value (Int n)) xs later es all (Signed vs) e = signed_number bare es all vs n xs (later es all (Valued (vs ++ negation (Int n) ∷ [])) e)
sound_step bare (Symbol Comma) xs later es all (Valued vs) e = valued_comma bare es all vs xs (later es all (Further vs) e)
sound_step bare (Symbol RightParen) xs later es all (Valued vs) e = valued_end bare es all vs xs (later (es ++ vs ∷ []) all Ended e)
sound_step bare (Symbol Comma) xs later es all Ended e = ended_comma bare es all xs (later es all Next e)
sound_step bare (Symbol RightBracket) xs later es all Ended e = ended_end bare es all xs (later es all Closed e)
sound_step bare _ xs later es all _ e = absurd (none-some all e)

sound_from : (bare : Bool) (xs : List Mark) → Sound bare xs
sound_from bare [] es all Closed e = read_closed bare es all (cc)
sound_from bare [] es all _ e = cc
sound_from bare (x ∷ xs) es all place e = sound_step bare x xs (λ es all place e. sound_from bare xs es all place e) es all place e

pub sound : (bare : Bool) (es : List (List Datum)) (xs : List Mark) → read_marks bare xs (begun [] Start) ≡ Some es → SpellsLiteral bare es xs
sound bare es xs e =
    let r : Reads bare [] Start es xs = sound_from bare xs [] es Start e in
    subst (λ (all : List (List Datum)). SpellsLiteral bare all xs) (sym r.all_are) r.marks
