-- The place that is told of a new array's name is that of the third token.
use Rattle.std.proofs.Common.{◌≡◌, inl, inr, ℕ, ◌+◌, ◌-◌, ◌≤◌, min, Some, List, [], ◌∷◌, length, take, drop, sym, ap, ◌∙◌, arith}
use Rattle.std.specs.Prelude.{slice_get}
use Rattle.std.specs.Option.{option_map}
use Rattle.std.proofs.lemmas.List.{length-drop, length-take}
use Rattle.cell_values.specs.declared.name.Span.{Span}
use Rattle.afl_lexer.specs.Lexemes.{Placed, a_name, a_word, bytes_of, lexeme_of, what_of}
use Rattle.afl_lexer.specs.Tokens.{AreTokens, IsGap, IsLongest, IsSpelled, IsTokenOf, Reaches, word_bytes}
use Rattle.afl_lexer.specs.Scan.{gap_len}
use Rattle.afl_lexer.specs.declared.token.Token.{Token}
use Rattle.afl_lexer.specs.declared.token.TokenKind.{TokenKind}
use Rattle.afl_lexer.specs.declared.token.TokenKind.TheVariants.{Name, Int, Text, Code, Word, Symbol}
use Rattle.afl_lexer.specs.declared.token.Word.{Word as AWord}
use Rattle.afl_lexer.specs.declared.token.Word.TheVariants.{Create, Array}
use Rattle.afl_lexer.proofs.Fronts.{one_longest}
use Rattle.afl_lexer.proofs.Places.{gap_at}
use Rattle.schema_grammar.specs.Spelling.{placed, across}
use Rattle.schema_grammar.specs.declared.shape_text.SchemaText.{SchemaText}
use Rattle.afl_trees.specs.Grammar.{Derives}
use Rattle.afl_trees.specs.Statement.{lexemes}
use Rattle.afl_trees.specs.Term.{create}
use Rattle.afl_types.specs.Place.{behind_gap, created_place, third_token}
use Rattle.afl_types.specs.Laws.{CreatedPlaceIsTheName}

-- ---- one token

word_at : (kind : TokenKind) (bytes : List ℕ) (w : AWord) → IsSpelled kind bytes → what_of kind bytes ≡ a_word w → bytes ≡ word_bytes w
word_at Name bytes w spelled e = cc
word_at (Int n) bytes w spelled e = cc
word_at Text bytes w spelled e = cc
word_at (Code n) bytes w spelled e = cc
word_at (Word v) bytes w spelled e = let same : v ≡ w = cc in spelled ∙ ap word_bytes same
word_at (Symbol s) bytes w spelled e = cc

name_at : (kind : TokenKind) (bytes name : List ℕ) → what_of kind bytes ≡ a_name name → bytes ≡ name
name_at Name bytes name e = cc
name_at (Int n) bytes name e = cc
name_at Text bytes name e = cc
name_at (Code n) bytes name e = cc
name_at (Word v) bytes name e = cc
name_at (Symbol s) bytes name e = cc

module _ (text : List ℕ) where
  -- a token ends behind its bytes
  ends_at : (token : Token) (bytes : List ℕ) → IsTokenOf text token → bytes_of text token.span ≡ bytes → token.span.end ≡ token.span.start + length bytes
  ends_at token bytes is e =
      let start : ℕ = token.span.start in
      let end : ℕ = token.span.end in
      let same : length (take (end - start) (drop start text)) ≡ length bytes = ap length e in
      omega (arith, same, is.rises, is.within, length-take (end - start) (drop start text), length-drop start text)

  -- a gap that is as long as can be ends where the gap ends that is found there
  gap_to : (from to : ℕ) → from ≤ length text → IsLongest IsGap text from to → to ≡ behind_gap text from
  gap_to from to h gap = one_longest IsGap text from to (from + gap_len (drop from text)) gap (gap_at text from h)

  -- ---- the first three tokens

  abbrev first_of : Placed → List Placed → Placed
  first_of none [] = none
  first_of none (p ∷ ps) = p

  abbrev rest_of : List Placed → List Placed
  rest_of [] = []
  rest_of (p ∷ ps) = ps

  same_span : (s t : Span) → s.start ≡ t.start → s.end ≡ t.end → s ≡ t
  same_span s t p q =
      let made : ℕ → ℕ → Span = λ x y. record { start = x; end = y } in
      let first : made s.start s.end ≡ made t.start s.end = ap (λ (x : ℕ). made x s.end) p in
      let second : made t.start s.end ≡ made t.start t.end = ap (λ (y : ℕ). made t.start y) q in
      first ∙ second

  module _
      (s : Span)
      (name : List ℕ)
      (short : length text ≤ 1048576)
      (t u v : Token)
      (is_t : IsTokenOf text t)
      (is_u : IsTokenOf text u)
      (is_v : IsTokenOf text v)
      (gap_u : IsLongest IsGap text t.span.end u.span.start)
      (gap_v : IsLongest IsGap text u.span.end v.span.start)
      (says_t : what_of t.kind (bytes_of text t.span) ≡ a_word Create)
      (says_u : what_of u.kind (bytes_of text u.span) ≡ a_word Array)
      (says_v : what_of v.kind (bytes_of text v.span) ≡ a_name name)
      (begins : s.start ≡ t.span.start)
    where
      end_t : t.span.end ≡ s.start + 6
      end_t = ends_at t (word_bytes Create) is_t (word_at t.kind (bytes_of text t.span) Create is_t.spelled says_t) ∙ ap (λ (n : ℕ). n + 6) (sym begins)

      start_u : u.span.start ≡ behind_gap text (s.start + 6)
      start_u = gap_to t.span.end u.span.start is_t.within gap_u ∙ ap (behind_gap text) end_t

      end_u : u.span.end ≡ behind_gap text (s.start + 6) + 5
      end_u = ends_at u (word_bytes Array) is_u (word_at u.kind (bytes_of text u.span) Array is_u.spelled says_u) ∙ ap (λ (n : ℕ). n + 5) start_u

      start_v : v.span.start ≡ third_token text s.start
      start_v = gap_to u.span.end v.span.start is_u.within gap_v ∙ ap (behind_gap text) end_u

      end_v : v.span.end ≡ third_token text s.start + length name
      end_v = ends_at v name is_v (name_at v.kind (bytes_of text v.span) name says_v) ∙ ap (λ (n : ℕ). n + length name) start_v

      in_place : v.span ≡ created_place text s name
      in_place =
          let rises = is_v.rises in
          let within = is_v.within in
          let start : v.span.start ≡ min (third_token text s.start) 4294967295 = omega (arith, short, rises, within, start_v) in
          let end : v.span.end ≡ min (third_token text s.start + length name) 4294967295 = omega (arith, short, within, end_v) in
          same_span v.span (created_place text s name) start end

  by_tokens : (s : Span) (name : List ℕ) (c a b e : Span) (ys : List Placed) → length text ≤ 1048576 → s ≡ across c e → (tokens : List Token) (end : ℕ) → Reaches text 0 tokens end
      → lexemes text tokens ≡ placed (a_word Create) c ∷ placed (a_word Array) a ∷ placed (a_name name) b ∷ ys → option_map (λ (token : Token). token.span) (slice_get tokens 2) ≡ Some (created_place text s name)
  by_tokens s name c a b e ys short place [] end reached is = cc
  by_tokens s name c a b e ys short place (t ∷ []) end reached is = let more : [] ≡ placed (a_word Array) a ∷ placed (a_name name) b ∷ ys = ap rest_of is in cc
  by_tokens s name c a b e ys short place (t ∷ u ∷ []) end reached is = let more : [] ≡ placed (a_name name) b ∷ ys = ap (λ (ps : List Placed). rest_of (rest_of ps)) is in cc
  by_tokens s name c a b e ys short place (t ∷ u ∷ v ∷ tokens) end reached is =
      let none : Placed = placed (a_word Create) c in
      let first : lexeme_of text t ≡ placed (a_word Create) c = ap (first_of none) is in
      let second : lexeme_of text u ≡ placed (a_word Array) a = ap (λ (ps : List Placed). first_of none (rest_of ps)) is in
      let third : lexeme_of text v ≡ placed (a_name name) b = ap (λ (ps : List Placed). first_of none (rest_of (rest_of ps))) is in
      let begins : s.start ≡ t.span.start = ap (λ (x : Span). x.start) place ∙ sym (ap (λ (p : Placed). p.span.start) first) in
      ap Some (in_place s name short t u v reached.2 reached.3.2 reached.3.3.2 reached.3.0 reached.3.3.0 (ap (λ (p : Placed). p.what) first) (ap (λ (p : Placed). p.what) second) (ap (λ (p : Placed). p.what) third) begins)

  by_form : (s : Span) (name : List ℕ) (written : SchemaText) (tokens : List Token) → length text ≤ 1048576 → AreTokens text tokens → Derives (lexemes text tokens) (create s name written)
      → option_map (λ (token : Token). token.span) (slice_get tokens 2) ≡ Some (created_place text s name)
  by_form s name written tokens short cut (inl (c, a, b, e, ys, is, place, spelled)) = by_tokens s name c a b e ys short place tokens cut.end cut.reached is
  by_form s name written tokens short cut (inr (above, spelled)) = absurd spelled

pub name_in_place : CreatedPlaceIsTheName
name_in_place text s name written short d = by_form text s name written d.tokens short d.cut d.statement.derived
