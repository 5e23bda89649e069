-- Each text has one list of tokens or one stop.
use Rattle.std.proofs.Common.{◌≡◌, ◌⊎◌, inl, inr, ℕ, zero, suc, ◌+◌, ◌<◌, ◌≤◌, All, List, [], ◌∷◌, ◌++◌, length, drop, refl, sym, ap, subst, ◌∙◌, arith}
use Rattle.std.proofs.lemmas.Bool.{cases_eq}
use Rattle.std.proofs.lemmas.List.{length-drop}
use Rattle.std.proofs.lemmas.List.Elements.{All-nil, All-cons}
use Rattle.afl_lexer.specs.declared.token.Token.{Token}
use Rattle.afl_lexer.specs.declared.token.TokenKind.{TokenKind}
use Rattle.afl_lexer.specs.declared.token.LexKind.{LexKind}
use Rattle.afl_lexer.specs.declared.reading.Reading.{Reading}
use Rattle.afl_lexer.specs.declared.reading.Reading.TheVariants.{Found, Wrong}
use Rattle.afl_lexer.specs.Outcome.{HasTokensOrStop, HasNotBoth, HasOneList, HasOneStop}
use Rattle.afl_lexer.specs.Scan.{gap_len, reading_of}
use Rattle.afl_lexer.specs.Tokens.{IsForm, IsGap, IsTokenOf, IsLongest, Reaches, BeginsAt, FailsAt, AreTokens, AreRising, LexStops}
use Rattle.afl_lexer.proofs.Fronts.{one_longest, longest_at}
use Rattle.afl_lexer.proofs.Judged.{IsRight}
use Rattle.afl_lexer.proofs.Places.{gap_at, fails_at, token_at, token_of, reaches_more, NoToken, no_token_at_end, fails_within, fails_no_token, fails_same, same_token}
use Rattle.afl_lexer.proofs.Readings.{reading_right}

-- tokens up to a place where none begins
abbrev Walk : List ℕ → ℕ → List Token → ℕ → Type 0
Walk text from tokens at = (end : ℕ) × Reaches text from tokens end × IsLongest IsGap text end at × NoToken text at

same_walk : (text : List ℕ) (from : ℕ) (xs ys : List Token) (a b : ℕ) → Walk text from xs a → Walk text from ys b → (xs ≡ ys) × (a ≡ b)
same_walk text from [] [] a b (x, r, g, n) (y, s, h, m) = (refl, one_longest IsGap text from a b (subst (λ (k : ℕ). IsLongest IsGap text k a) (sym r) g) (subst (λ (k : ℕ). IsLongest IsGap text k b) (sym s) h))
same_walk text from [] (t ∷ ys) a b (x, r, g, n) (y, (gap, form, is, s), h, m) =
    absurd (n t (one_longest IsGap text from t.span.start a gap (subst (λ (k : ℕ). IsLongest IsGap text k a) (sym r) g)) form is)
same_walk text from (t ∷ xs) [] a b (x, (gap, form, is, r), g, n) (y, s, h, m) =
    absurd (m t (one_longest IsGap text from t.span.start b gap (subst (λ (k : ℕ). IsLongest IsGap text k b) (sym s) h)) form is)
same_walk text from (t ∷ xs) (u ∷ ys) a b (x, (gap, form, is, r), g, n) (y, (other, shape, has, s), h, m) =
    let starts : t.span.start ≡ u.span.start = one_longest IsGap text from t.span.start u.span.start gap other in
    let same : t ≡ u = same_token text t u starts form is shape has in
    let moved : Walk text t.span.end ys b = subst (λ (k : Token). Walk text k.span.end ys b) (sym same) (y, s, h, m) in
    let rest = same_walk text t.span.end xs ys a b (x, r, g, n) moved in
    (ap (λ z. z ∷ xs) same ∙ ap (λ zs. u ∷ zs) rest.0, rest.1)

tokens_walk : (text : List ℕ) (tokens : List Token) → AreTokens text tokens → Walk text 0 tokens (length text)
tokens_walk text tokens is = (is.end, is.reached, is.last_gap, no_token_at_end text)

stop_walk : (text : List ℕ) (at : ℕ) (kind : LexKind) (s : LexStops text at kind) → Walk text 0 s.tokens s.start
stop_walk text at kind s = (s.end, s.reached, s.last_gap, fails_no_token text s.start at kind s.fault)

pub one_list : HasOneList
one_list text tokens others a b = (same_walk text 0 tokens others (length text) (length text) (tokens_walk text tokens a) (tokens_walk text others b)).0

pub not_both : HasNotBoth
not_both text tokens at kind a s =
    let same : length text ≡ s.start = (same_walk text 0 tokens s.tokens (length text) s.start (tokens_walk text tokens a) (stop_walk text at kind s)).1 in
    omega (arith, fails_within text s.start at kind s.fault)

pub one_stop : HasOneStop
one_stop text at place kind why s t =
    let same : s.start ≡ t.start = (same_walk text 0 s.tokens t.tokens s.start t.start (stop_walk text at kind s) (stop_walk text place why t)).1 in
    fails_same text s.start at place kind why s.fault (subst (λ (k : ℕ). FailsAt text k place why) (sym same) t.fault)

-- the tokens before a place, and the gap up to it
pub record IsReached (text : List ℕ) (tokens : List Token) (at : ℕ) : Type 0 where
  pub end : ℕ
  pub reached : Reaches text 0 tokens end
  pub gap : IsLongest IsGap text end at

pub reached_first : (text : List ℕ) → IsReached text [] (gap_len text)
reached_first text =
    let none : 0 + gap_len text ≡ gap_len text = omega arith in
    record { end = 0; reached = refl; gap = subst (λ (k : ℕ). IsLongest IsGap text 0 k) none (gap_at text 0 (omega arith)) }

pub reached_end : (text : List ℕ) (tokens : List Token) (at : ℕ) → IsReached text tokens at → at ≡ length text → AreTokens text tokens
reached_end text tokens at r e = record { end = r.end; reached = r.reached; last_gap = subst (λ (k : ℕ). IsLongest IsGap text r.end k) e r.gap }

abbrev TokensOrStop : List ℕ → Type 0
TokensOrStop text = ((tokens : List Token) × AreTokens text tokens) ⊎ ((at : ℕ) × (kind : LexKind) × LexStops text at kind)

pub reached_within : (text : List ℕ) (tokens : List Token) (at : ℕ) → IsReached text tokens at → at ≤ length text
reached_within text tokens at r = r.gap.within

-- each token is one of the text
pub reaches_each : (text : List ℕ) (from : ℕ) (tokens : List Token) (to : ℕ) → Reaches text from tokens to → All (IsTokenOf text) tokens
reaches_each text from [] to r = All-nil (IsTokenOf text)
reaches_each text from (t ∷ tokens) to (gap, form, is, r) = All-cons (IsTokenOf text) t tokens is (reaches_each text t.span.end tokens to r)

-- and none begins before the one before it has ended
pub reaches_rising : (text : List ℕ) (from : ℕ) (tokens : List Token) (to : ℕ) → Reaches text from tokens to → AreRising from tokens
reaches_rising text from [] to r = tt
reaches_rising text from (t ∷ tokens) to (gap, form, is, r) = (gap.rises, reaches_rising text t.span.end tokens to r)

-- one more token, as code finds it
pub reached_more : (text : List ℕ) (tokens : List Token) (at : ℕ) (token : Token) (next : ℕ) → IsReached text tokens at → BeginsAt text at token → IsLongest IsGap text token.span.end next
    → IsReached text (tokens ++ token ∷ []) next
reached_more text tokens at token next r b gap = record {
  end = token.span.end;
  reached = reaches_more text 0 tokens r.end token r.reached (subst (λ (k : ℕ). IsLongest IsGap text r.end k) (sym b.start) r.gap) b.form b.is_token;
  gap = gap;
}

pub reached_fault : (text : List ℕ) (tokens : List Token) (at place : ℕ) (kind : LexKind) → IsReached text tokens at → FailsAt text at place kind → LexStops text place kind
reached_fault text tokens at place kind r f = record { tokens = tokens; end = r.end; start = at; reached = r.reached; last_gap = r.gap; fault = f }

-- what code reads from a place on
pub begins_at : (text : List ℕ) (at : ℕ) (kind : TokenKind) (n : ℕ) → at < length text → IsRight (drop at text) (Found kind n) → BeginsAt text at (token_at kind at (at + n))
begins_at text at kind n h (some, front, spelled) =
    let before : at ≤ length text = omega arith in
    record { start = refl; form = longest_at IsForm text at n before front; is_token = token_of text at n kind before some front spelled }

go_on : (text : List ℕ) (tokens : List Token) (at n : ℕ) (reading : Reading) → IsReached text tokens at → at < length text → IsRight (drop at text) reading → length text ≤ at + suc n
    → ((more : List Token) (to : ℕ) → IsReached text more to → length text ≤ to + n → TokensOrStop text) → TokensOrStop text
go_on text tokens at n (Found kind size) r h right room next =
    let token : BeginsAt text at (token_at kind at (at + size)) = begins_at text at kind size h right in
    next (tokens ++ token_at kind at (at + size) ∷ []) (at + size + gap_len (drop (at + size) text))
    (reached_more text tokens at (token_at kind at (at + size)) _ r token (gap_at text (at + size) token.form.within)) (omega (arith, right.0))
go_on text tokens at n (Wrong kind off) r h right room next = inr (at + off, kind, reached_fault text tokens at (at + off) kind r (fails_at kind text at off h right))

below : (a b : ℕ) → (a ≡ b → ⊥) → a ≤ b → a < b
below a b e h = omega arith

from_here : (n : ℕ) (text : List ℕ) (tokens : List Token) (at : ℕ) → IsReached text tokens at → length text ≤ at + n → TokensOrStop text
from_here zero text tokens at r room = inl (tokens, reached_end text tokens at r (omega (arith, reached_within text tokens at r)))
from_here (suc n) text tokens at r room = by (cases_eq at (length text)) (λ h. go_on text tokens at n (reading_of (drop at text)) r h (reading_right (drop at text) (simp length-drop (omega arith))) room (λ more to q e. from_here n text more to q e)) where
  by : (at ≡ length text) ⊎ (at ≡ length text → ⊥) → (at < length text → TokensOrStop text) → TokensOrStop text
  by (inl e) next = inl (tokens, reached_end text tokens at r e)
  by (inr e) next = next (below at (length text) e (reached_within text tokens at r))

pub tokens_or_stop : HasTokensOrStop
tokens_or_stop text = from_here (length text) text [] (gap_len text) (reached_first text) (omega arith)
