-- Schemas among tokens: what the reader's steps say of them.
use Rattle.std.proofs.Common.{◌≡◌, ℕ, ◌+◌, ◌-◌, ◌≤◌, ◌<◌, List, [], length, take, drop, slice_index_or, sym, ap, subst, ◌∙◌, arith}
use Rattle.std.specs.Prelude.{slice_range}
use Rattle.std.specs.List.{drop-map, take-map}
use Rattle.std.proofs.lemmas.List.{take_more, length-map, length-drop, drop-drop, take-append-drop}
use Rattle.std.proofs.Math.ListN.{get_or-map}
use Rattle.std.proofs.Math.Seq.{take-length}
use Rattle.afl_lexer.specs.Span.{Span}
use Rattle.afl_lexer.specs.Lexemes.{Placed, lexeme_of}
use Rattle.afl_lexer.specs.declared.token.Token.{Token}
use Rattle.schema_grammar.specs.declared.shape_text.SchemaText.{SchemaText}
use Rattle.schema_grammar.specs.declared.state.ShapeState.{ShapeState}
use Rattle.schema_grammar.specs.declared.state.ShapeState.TheVariants.{Start}
use Rattle.schema_grammar.specs.declared.state.ShapeStep.TheVariants.{On, Whole, Unexpected}
use Rattle.schema_grammar.specs.Spelling.{SpellsSchema}
use Rattle.schema_grammar.specs.Inner.Reading.{shape_turn, Open, Read, shape_go, shape_run}
use Rattle.schema_grammar.specs.Outcome.{lexemes, IsSchemaAt, IsFront, StopsAt}
use Rattle.schema_grammar.proofs.ShapeRuns.{run_append, run_on, one_more, read_sound, StopsIn, stops_here, stops_at_end, one_read, read_no_stop, one_stop}

-- the tokens from a place on
abbrev pub from_on : List Token → ℕ → List Token
from_on tokens from = take (length tokens - from) (drop from tokens)

rest_is : (tokens : List Token) (from : ℕ) → from_on tokens from ≡ drop from tokens
rest_is tokens from = ap (λ n. take n (drop from tokens)) (sym (length-drop from tokens)) ∙ take-length (drop from tokens)

abbrev after : List ℕ → List Token → ℕ → List Placed
after text tokens from = lexemes text (from_on tokens from)

after_is : (text : List ℕ) (tokens : List Token) (from : ℕ) → after text tokens from ≡ lexemes text (drop from tokens)
after_is text tokens from = ap (lexemes text) (rest_is tokens from)

length_after : (text : List ℕ) (tokens : List Token) (from : ℕ) → length (after text tokens from) ≡ length tokens - from
length_after text tokens from = length-map (from_on tokens from) (lexeme_of text) ∙ ap length (rest_is tokens from) ∙ length-drop from tokens

-- Between places of the tokens and places of the lexemes from one on.

between : (text : List ℕ) (tokens : List Token) (from i : ℕ) → take i (after text tokens from) ≡ lexemes text (slice_range tokens from (from + i))
between text tokens from i =
    let e : i ≡ from + i - from = omega arith in
    ap (take i) (after_is text tokens from) ∙ take-map (lexeme_of text) i (drop from tokens) ∙ ap (λ n. lexemes text (take n (drop from tokens))) e

pub stops_at : (text : List ℕ) (tokens : List Token) (from i : ℕ) → from ≤ length tokens → StopsIn (after text tokens from) i → StopsAt text tokens from (from + i)
stops_at text tokens from i h r =
    let w : i ≤ length tokens - from = omega (arith, r.within, length_after text tokens from) in
    record {
      behind = omega arith;
      within = omega arith;
      front = subst IsFront (between text tokens from i) r.front;
      part = λ t s g. r.part t s (subst (λ l. SpellsSchema t s l []) (sym (between text tokens from i)) g);
      stop = λ b f.
          let c : i < length (after text tokens from) = omega (arith, length_after text tokens from) in
          r.stop c (subst IsFront (sym (between text tokens from (i + 1))) (subst (λ n. IsFront (lexemes text (slice_range tokens from n))) (omega arith) f));
    }

pub stops_in : (text : List ℕ) (tokens : List Token) (from at : ℕ) → StopsAt text tokens from at → StopsIn (after text tokens from) (at - from)
stops_in text tokens from at r =
    let e : from + (at - from) ≡ at = omega (arith, r.behind) in
    let f : from + (at - from + 1) ≡ at + 1 = omega (arith, r.behind) in
    let here : take (at - from) (after text tokens from) ≡ lexemes text (slice_range tokens from at)
    = between text tokens from (at - from) ∙ ap (λ n. lexemes text (slice_range tokens from n)) e in
    let next : take (at - from + 1) (after text tokens from) ≡ lexemes text (slice_range tokens from (at + 1))
    = between text tokens from (at - from + 1) ∙ ap (λ n. lexemes text (slice_range tokens from n)) f in
    record {
      within = omega (arith, r.within, r.behind, length_after text tokens from);
      front = subst IsFront (sym here) r.front;
      part = λ t s g. r.part t s (subst (λ l. SpellsSchema t s l []) here g);
      stop = λ b g. r.stop (omega (arith, r.within, r.behind, length_after text tokens from)) (subst IsFront next g);
    }

-- The reader's steps.

module _ (text : List ℕ) (tokens : List Token) (from i : ℕ) (d : Token) (state : ShapeState) where
  abbrev ls : List Placed
  ls = after text tokens from

  abbrev token_at : Token
  token_at = slice_index_or (from_on tokens from) i d

  within_after : i < length (from_on tokens from) → i < length ls
  within_after h = omega (arith, length-map (from_on tokens from) (lexeme_of text))

  same_token : i < length (from_on tokens from) → slice_index_or ls i (lexeme_of text d) ≡ lexeme_of text token_at
  same_token h = get_or-map (lexeme_of text) (from_on tokens from) i d

  one_token : i < length (from_on tokens from) → shape_run Start (take i ls) ≡ Open state
      → shape_run Start (take (i + 1) ls) ≡ shape_go (shape_turn state (lexeme_of text token_at)) [] (λ state. Open state)
  one_token h e =
      ap (shape_run Start) (take_more ls i (lexeme_of text d) (within_after h))
      ∙ one_more (take i ls) (slice_index_or ls i (lexeme_of text d)) state e
      ∙ ap (λ x. shape_go (shape_turn state x) [] (λ state. Open state)) (same_token h)

  pub next_at : (next : ShapeState) → i < length (from_on tokens from) → shape_run Start (take i ls) ≡ Open state
      → shape_turn state (lexeme_of text token_at) ≡ On next → shape_run Start (take (i + 1) ls) ≡ Open next
  next_at next h e g = one_token h e ∙ ap (λ step. shape_go step [] (λ state. Open state)) g

  pub unexpected_at : from ≤ length tokens → i < length (from_on tokens from) → shape_run Start (take i ls) ≡ Open state
      → shape_turn state (lexeme_of text token_at) ≡ Unexpected → StopsAt text tokens from (from + i)
  unexpected_at w h e g =
      stops_at text tokens from i w (stops_here ls i (lexeme_of text d) state (within_after h) e (ap (shape_turn state) (same_token h) ∙ g))

  behind : drop (i + 1) ls ≡ lexemes text (drop (from + i + 1) tokens)
  behind = ap (drop (i + 1)) (after_is text tokens from) ∙ drop-map (lexeme_of text) (i + 1) (drop from tokens)
      ∙ ap (lexemes text) (drop-drop (i + 1) from tokens) ∙ ap (λ n. lexemes text (drop n tokens)) (omega arith)

  pub whole_at : (t : SchemaText) (s : Span) → from ≤ length tokens → i < length (from_on tokens from) → shape_run Start (take i ls) ≡ Open state
      → shape_turn state (lexeme_of text token_at) ≡ Whole t s → IsSchemaAt text tokens from t (from + i + 1)
  whole_at t s w h e g =
      let read : shape_run Start (take (i + 1) ls) ≡ Read t s [] = one_token h e ∙ ap (λ step. shape_go step [] (λ state. Open state)) g in
      let run : shape_run Start ls ≡ Read t s (drop (i + 1) ls)
      = ap (shape_run Start) (sym (take-append-drop (i + 1) ls)) ∙ run_append (take (i + 1) ls) (drop (i + 1) ls) Start ∙ ap (λ run. run_on run (drop (i + 1) ls)) read in
      record {
        within = omega (arith, within_after h, length_after text tokens from);
        span = s;
        spelled = subst (λ l. SpellsSchema t s l (lexemes text (drop (from + i + 1) tokens))) (after_is text tokens from)
            (subst (SpellsSchema t s ls) behind (read_sound ls (drop (i + 1) ls) t s run));
      }

pub end_at : (text : List ℕ) (tokens : List Token) (from i : ℕ) (state : ShapeState) → from ≤ length tokens → i ≤ length (from_on tokens from) → length (from_on tokens from) ≤ i
    → shape_run Start (take i (after text tokens from)) ≡ Open state → StopsAt text tokens from (length tokens)
end_at text tokens from i state w h g e =
    let n : i ≡ length (after text tokens from) = omega (arith, length-map (from_on tokens from) (lexeme_of text)) in
    subst (StopsAt text tokens from) (omega (arith, w, length_after text tokens from))
    (stops_at text tokens from (length (after text tokens from)) w (stops_at_end (after text tokens from) state (ap (λ n. shape_run Start (take n (after text tokens from))) (sym n) ∙ e)))

-- One answer.

pub one_schema_at : (text : List ℕ) (tokens : List Token) (from n m : ℕ) (t u : SchemaText) → from ≤ length tokens
    → IsSchemaAt text tokens from t n → IsSchemaAt text tokens from u m → (t ≡ u) × (n ≡ m)
one_schema_at text tokens from n m t u w r q =
    let e = one_read _ _ _ t u r.span q.span r.spelled q.spelled in
    let same : length (lexemes text (drop n tokens)) ≡ length (lexemes text (drop m tokens)) = ap length e.1 in
    (e.0, omega (arith, r.within, q.within, same, length-map (drop n tokens) (lexeme_of text), length-map (drop m tokens) (lexeme_of text), length-drop n tokens, length-drop m tokens))

pub no_stop_at : (text : List ℕ) (tokens : List Token) (from n at : ℕ) (t : SchemaText) → IsSchemaAt text tokens from t n → StopsAt text tokens from at → ⊥
no_stop_at text tokens from n at t r q =
    read_no_stop (after text tokens from) _ t r.span (at - from) (subst (λ l. SpellsSchema t r.span l (lexemes text (drop n tokens))) (sym (after_is text tokens from)) r.spelled) (stops_in text tokens from at q)

pub one_stop_at : (text : List ℕ) (tokens : List Token) (from a b : ℕ) → StopsAt text tokens from a → StopsAt text tokens from b → a ≡ b
one_stop_at text tokens from a b r q =
    let e : a - from ≡ b - from = one_stop (after text tokens from) (a - from) (b - from) (stops_in text tokens from a r) (stops_in text tokens from b q) in
    omega (arith, e, r.behind, q.behind)
