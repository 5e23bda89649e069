-- Where the reader ends a schema, and where it stops.
use Rattle.std.proofs.Common.{◌≡◌, ℕ, ◌+◌, ◌-◌, ◌≤◌, ◌<◌, List, [], ◌∷◌, ◌++◌, length, take, drop, slice_index_or, refl, sym, ap, subst, ◌∙◌, arith}
use Rattle.std.proofs.lemmas.List.{take-append-drop, append-nil, take_more}
use Rattle.std.proofs.Math.Seq.{take-length, take-add}
use Rattle.afl_lexer.specs.Span.{Span}
use Rattle.afl_lexer.specs.Lexemes.{Placed, a_symbol}
use Rattle.afl_lexer.specs.declared.token.Symbol.TheVariants.{Comma}
use Rattle.schema_grammar.specs.declared.shape_text.SchemaText.{SchemaText}
use Rattle.schema_grammar.specs.declared.state.ShapeState.{ShapeState}
use Rattle.schema_grammar.specs.declared.state.ShapeState.TheVariants.{Start}
use Rattle.schema_grammar.specs.declared.state.ShapeStep.{ShapeStep}
use Rattle.schema_grammar.specs.declared.state.ShapeStep.TheVariants.{On, Whole, Unexpected}
use Rattle.schema_grammar.specs.Spelling.{placed, SpellsSchema}
use Rattle.schema_grammar.specs.Inner.Reading.{shape_turn, ShapeRun, Read, Open, Stuck, shape_go, shape_run}
use Rattle.schema_grammar.specs.Outcome.{IsFront}
use Rattle.schema_grammar.proofs.ShapeComplete.{shape_read}
use Rattle.schema_grammar.proofs.ShapeSound.{HoldsShape, HoldsStep, holds_turn}
use Rattle.schema_grammar.proofs.ShapeEnds.{shape_enders, shape_ends}

-- a run, and then more tokens
abbrev pub run_on : ShapeRun → List Placed → ShapeRun
run_on (Read t s rest) ys = Read t s (rest ++ ys)
run_on (Open state) ys = shape_run state ys
run_on Stuck ys = Stuck

go_append : (step : ShapeStep) (xs ys : List Placed) → ((state : ShapeState) → shape_run state (xs ++ ys) ≡ run_on (shape_run state xs) ys)
    → shape_go step (xs ++ ys) (λ state. shape_run state (xs ++ ys)) ≡ run_on (shape_go step xs (λ state. shape_run state xs)) ys
go_append (On state) xs ys h = h state
go_append (Whole t s) xs ys h = refl
go_append Unexpected xs ys h = refl

pub run_append : (xs ys : List Placed) (state : ShapeState) → shape_run state (xs ++ ys) ≡ run_on (shape_run state xs) ys
run_append [] ys state = refl
run_append (x ∷ xs) ys state = go_append (shape_turn state x) xs ys (λ state. run_append xs ys state)

go_sound : (step : ShapeStep) (xs zs rest : List Placed) (t : SchemaText) (s : Span)
    → ((state : ShapeState) → HoldsShape state xs zs → shape_run state zs ≡ Read t s rest → SpellsSchema t s xs rest)
    → HoldsStep step xs zs → shape_go step zs (λ state. shape_run state zs) ≡ Read t s rest → SpellsSchema t s xs rest
go_sound (On state) xs zs rest t s later h e = later state h e
go_sound (Whole u r) xs zs rest t s later h e =
    let same_tree : u ≡ t = cc in
    let same_span : r ≡ s = cc in
    let same_rest : zs ≡ rest = cc in
    subst (λ t. SpellsSchema t s xs rest) same_tree (subst (λ s. SpellsSchema u s xs rest) same_span (subst (SpellsSchema u r xs) same_rest h))
go_sound Unexpected xs zs rest t s later h e = cc

pub sound : (zs xs rest : List Placed) (t : SchemaText) (s : Span) (state : ShapeState) → HoldsShape state xs zs → shape_run state zs ≡ Read t s rest → SpellsSchema t s xs rest
sound [] xs rest t s state h e = cc
sound (x ∷ zs) xs rest t s state h e = go_sound (shape_turn state x) xs zs rest t s (λ state h e. sound zs xs rest t s state h e) (holds_turn state x xs zs h) e

-- what the reader comes to over tokens, they spell
pub read_sound : (xs rest : List Placed) (t : SchemaText) (s : Span) → shape_run Start xs ≡ Read t s rest → SpellsSchema t s xs rest
read_sound xs rest t s e = sound xs xs rest t s Start refl e

-- tokens after which the reader stands in a schema are a front, and no whole one
open_front : (xs : List Placed) (state : ShapeState) → shape_run Start xs ≡ Open state → IsFront xs
open_front xs state e =
    let r = shape_ends state [] in (
      shape_enders state [],
      r.0,
      r.1,
      read_sound (xs ++ shape_enders state []) [] r.0 r.1
          (run_append xs (shape_enders state []) Start ∙ ap (λ run. run_on run (shape_enders state [])) e ∙ r.2),
    )

open_part : (xs : List Placed) (state : ShapeState) → shape_run Start xs ≡ Open state → (t : SchemaText) (s : Span) → SpellsSchema t s xs [] → ⊥
open_part xs state e t s h = let r : shape_run Start xs ≡ Read t s [] = shape_read t s xs [] h in cc

stuck_front : (xs : List Placed) → shape_run Start xs ≡ Stuck → IsFront xs → ⊥
stuck_front xs e (more, t, s, h) =
    let r : shape_run Start (xs ++ more) ≡ Read t s [] = shape_read t s (xs ++ more) [] h in
    let q : shape_run Start (xs ++ more) ≡ Stuck = run_append xs more Start ∙ ap (λ run. run_on run more) e in
    cc

-- a front that is no whole schema leaves the reader in a schema
nothing_left : (rest more : List Placed) → rest ++ more ≡ [] → rest ≡ []
nothing_left [] more e = refl
nothing_left (x ∷ rest) more e = cc

front_run : (run : ShapeRun) (xs more : List Placed) (t : SchemaText) (s : Span) → shape_run Start xs ≡ run → run_on run more ≡ Read t s []
    → ((t : SchemaText) (s : Span) → SpellsSchema t s xs [] → ⊥) → (state : ShapeState) × (shape_run Start xs ≡ Open state)
front_run (Open state) xs more t s e r part = (state, e)
front_run Stuck xs more t s e r part = cc
front_run (Read u q rest) xs more t s e r part =
    let empty : rest ++ more ≡ [] = cc in
    absurd (part u q (subst (SpellsSchema u q xs) (nothing_left rest more empty) (read_sound xs rest u q e)))

front_open : (xs : List Placed) → IsFront xs → ((t : SchemaText) (s : Span) → SpellsSchema t s xs [] → ⊥) → (state : ShapeState) × (shape_run Start xs ≡ Open state)
front_open xs (more, t, s, h) part =
    front_run (shape_run Start xs) xs more t s refl (sym (run_append xs more Start) ∙ shape_read t s (xs ++ more) [] h) part

pub one_more : (xs : List Placed) (x : Placed) (state : ShapeState) → shape_run Start xs ≡ Open state → shape_run Start (xs ++ x ∷ []) ≡ shape_go (shape_turn state x) [] (λ state. Open state)
one_more xs x state e = run_append xs (x ∷ []) Start ∙ ap (λ run. run_on run (x ∷ [])) e

-- A token that is no part of any schema is unexpected.
refused : (step : ShapeStep) (xs : List Placed) → shape_run Start xs ≡ shape_go step [] (λ state. Open state) → (IsFront xs → ⊥) → step ≡ Unexpected
refused (On state) xs e h = absurd (h (open_front xs state e))
refused (Whole t s) xs e h = absurd (h ([], t, s, subst (λ l. SpellsSchema t s l []) (sym (append-nil xs)) (read_sound xs [] t s e)))
refused Unexpected xs e h = refl

abbrev some_token : Placed
some_token = placed (a_symbol Comma) (record { start = 0; end = 0 })

-- Stops among lexemes.
pub record StopsIn (ls : List Placed) (at : ℕ) : Type 0 where
  pub within : at ≤ length ls
  pub front : IsFront (take at ls)
  pub part : (t : SchemaText) (s : Span) → SpellsSchema t s (take at ls) [] → ⊥
  pub stop : at < length ls → IsFront (take (at + 1) ls) → ⊥

pub stops_here : (ls : List Placed) (i : ℕ) (d : Placed) (state : ShapeState) → i < length ls → shape_run Start (take i ls) ≡ Open state
    → shape_turn state (slice_index_or ls i d) ≡ Unexpected → StopsIn ls i
stops_here ls i d state h e u = record {
  within = omega arith;
  front = open_front (take i ls) state e;
  part = open_part (take i ls) state e;
  stop = λ w f. stuck_front (take (i + 1) ls)
      (ap (shape_run Start) (take_more ls i d h) ∙ one_more (take i ls) (slice_index_or ls i d) state e ∙ ap (λ step. shape_go step [] (λ state. Open state)) u) f;
}

pub stops_at_end : (ls : List Placed) (state : ShapeState) → shape_run Start (take (length ls) ls) ≡ Open state → StopsIn ls (length ls)
stops_at_end ls state e = record {
  within = omega arith;
  front = open_front (take (length ls) ls) state e;
  part = open_part (take (length ls) ls) state e;
  stop = λ w f. omega arith;
}

-- the reader at the place before a stop, and the token there
stop_run : (ls : List Placed) (i : ℕ) → StopsIn ls i → (state : ShapeState) × (shape_run Start (take i ls) ≡ Open state)
stop_run ls i r = front_open (take i ls) r.front r.part

stuck_behind : (ls : List Placed) (i : ℕ) → i < length ls → StopsIn ls i → shape_run Start (take (i + 1) ls) ≡ Stuck
stuck_behind ls i h r =
    let q = stop_run ls i r in
    let e : shape_run Start (take (i + 1) ls) ≡ shape_go (shape_turn q.0 (slice_index_or ls i some_token)) [] (λ state. Open state)
    = ap (shape_run Start) (take_more ls i some_token h) ∙ one_more (take i ls) (slice_index_or ls i some_token) q.0 q.1 in
    e ∙ ap (λ step. shape_go step [] (λ state. Open state)) (refused _ (take (i + 1) ls) e (r.stop h))

-- no schema begins where tokens stop
whole_at_end : (ls rest : List Placed) (t : SchemaText) (s : Span) → shape_run Start ls ≡ Read t s rest → StopsIn ls (length ls) → ⊥
whole_at_end ls rest t s e r =
    let q = stop_run ls (length ls) r in
    let f : shape_run Start ls ≡ Open q.0 = ap (shape_run Start) (sym (take-length ls)) ∙ q.1 in
    cc

whole_behind : (ls rest : List Placed) (t : SchemaText) (s : Span) (i : ℕ) → i < length ls → shape_run Start ls ≡ Read t s rest → StopsIn ls i → ⊥
whole_behind ls rest t s i h e r =
    let f : shape_run Start ls ≡ Stuck
    = ap (shape_run Start) (sym (take-append-drop (i + 1) ls)) ∙ run_append (take (i + 1) ls) (drop (i + 1) ls) Start ∙ ap (λ run. run_on run (drop (i + 1) ls)) (stuck_behind ls i h r) in
    cc

-- One schema, one stop, and not both.

pub one_read : (ls zs ws : List Placed) (t u : SchemaText) (s r : Span) → SpellsSchema t s ls zs → SpellsSchema u r ls ws → (t ≡ u) × (zs ≡ ws)
one_read ls zs ws t u s r g h =
    let e : shape_run Start ls ≡ Read t s zs = shape_read t s ls zs g in
    let f : shape_run Start ls ≡ Read u r ws = shape_read u r ls ws h in
    (cc, cc)

pub read_no_stop : (ls zs : List Placed) (t : SchemaText) (s : Span) (i : ℕ) → SpellsSchema t s ls zs → StopsIn ls i → ⊥
read_no_stop ls zs t s i g r =
    let e : shape_run Start ls ≡ Read t s zs = shape_read t s ls zs g in
    let no_less : i < length ls → ⊥ = λ h. whole_behind ls zs t s i h e r in
    let last : i ≡ length ls = omega (arith, r.within) in
    whole_at_end ls zs t s e (subst (StopsIn ls) last r)

not_before : (ls : List Placed) (i j : ℕ) → StopsIn ls i → StopsIn ls j → i < j → ⊥
not_before ls i j r q h =
    let w : i < length ls = omega (arith, q.within) in
    let e : j ≡ i + 1 + (j - (i + 1)) = omega arith in
    let p : take j ls ≡ take (i + 1) ls ++ take (j - (i + 1)) (drop (i + 1) ls) = ap (λ n. take n ls) e ∙ take-add (i + 1) (j - (i + 1)) ls in
    let f : shape_run Start (take j ls) ≡ Stuck
    = ap (shape_run Start) p ∙ run_append (take (i + 1) ls) (take (j - (i + 1)) (drop (i + 1) ls)) Start ∙ ap (λ run. run_on run (take (j - (i + 1)) (drop (i + 1) ls))) (stuck_behind ls i w r) in
    stuck_front (take j ls) f q.front

pub one_stop : (ls : List Placed) (i j : ℕ) → StopsIn ls i → StopsIn ls j → i ≡ j
one_stop ls i j r q =
    let no_less : i < j → ⊥ = λ h. not_before ls i j r q h in
    let no_more : j < i → ⊥ = λ h. not_before ls j i q r h in
    omega arith
