-- What stands from a place of a text on, and that it is one thing.
use Rattle.std.proofs.Common.{◌≡◌, ◌≢◌, ◌⊎◌, inl, inr, ℕ, zero, suc, ◌+◌, ◌-◌, ◌<◌, ◌≤◌, List, [], ◌∷◌, ◌++◌, Some, length, take, drop, refl, sym, ap, subst, ◌∙◌, arith}
use Rattle.std.specs.Prelude.{slice_range, slice_get}
use Rattle.std.proofs.lemmas.List.{length-drop, length-take}
use Rattle.afl_lexer.specs.declared.token.Token.{Token}
use Rattle.afl_lexer.specs.declared.token.TokenKind.{TokenKind}
use Rattle.afl_lexer.specs.declared.token.LexKind.{LexKind}
use Rattle.afl_lexer.specs.declared.token.LexKind.TheVariants.{UnknownCharacter, OpenText, BadEscape, TextTooLong, NameTooLong, LiteralTooLarge}
use Rattle.afl_lexer.specs.declared.reading.Reading.TheVariants.{Found, Wrong}
use Rattle.afl_lexer.specs.Lexemes.{bytes_of}
use Rattle.afl_lexer.specs.Tokens.{IsForm, IsGap, IsSpelled, IsTokenOf, IsLongest, Reaches, HasNoForm, IsWrong, FailsAt}
use Rattle.afl_lexer.specs.Scan.{gap_len, reading_of}
use Rattle.afl_lexer.proofs.Forms.{nil_no_form}
use Rattle.afl_lexer.proofs.Fronts.{IsFront, longest_at, one_longest, slice_is}
use Rattle.afl_lexer.proofs.Gaps.{gap_front}
use Rattle.afl_lexer.proofs.Judged.{NoFront, FailsFront}
use Rattle.afl_lexer.proofs.Spelled.{spelled_alone, wrong_alone}

pub gap_at : (text : List ℕ) (at : ℕ) → at ≤ length text → IsLongest IsGap text at (at + gap_len (drop at text))
gap_at text at h = longest_at IsGap text at (gap_len (drop at text)) h (gap_front (drop at text))

slice_get_drop : (xs : List ℕ) (at : ℕ) → slice_get (drop at xs) 0 ≡ slice_get xs at
slice_get_drop [] zero = refl
slice_get_drop [] (suc at) = refl
slice_get_drop (x ∷ xs) zero = refl
slice_get_drop (x ∷ xs) (suc at) = slice_get_drop xs at

no_form : (text : List ℕ) (at : ℕ) → at < length text → NoFront (drop at text) → HasNoForm text at
no_form text at h none = record { within = h; none = λ end within f. none (end - at) (simp length-drop (omega arith)) f }

rule_at : (kind : LexKind) (text : List ℕ) (at off : ℕ) → at < length text → (n : ℕ) × IsFront IsForm (drop at text) n × IsWrong kind (take n (drop at text)) off
    → (end : ℕ) × (further : ℕ) × (at + off ≡ at + further) × IsLongest IsForm text at end × IsWrong kind (slice_range text at end) further
rule_at kind text at off h (n, front, wrong) =
    let before : at ≤ length text = omega arith in
    (at + n, off, refl, longest_at IsForm text at n before front, subst (λ ys. IsWrong kind ys off) (sym (slice_is text at n)) wrong)

-- what fails at the front of the rest fails at the place
pub fails_at : (kind : LexKind) (text : List ℕ) (at off : ℕ) → at < length text → FailsFront (drop at text) kind off → FailsAt text at (at + off) kind
fails_at UnknownCharacter text at off h (z, none, q) = (omega arith, no_form text at h none, λ e. q (slice_get_drop text at ∙ e))
fails_at OpenText text at off h (z, none, q) = (omega arith, no_form text at h none, sym (slice_get_drop text at) ∙ q)
fails_at BadEscape text at off h f = rule_at BadEscape text at off h f
fails_at TextTooLong text at off h f = rule_at TextTooLong text at off h f
fails_at NameTooLong text at off h f = rule_at NameTooLong text at off h f
fails_at LiteralTooLarge text at off h f = rule_at LiteralTooLarge text at off h f

abbrev pub token_at : TokenKind → ℕ → ℕ → Token
token_at kind start end = record { kind = kind; span = record { start = start; end = end } }

pub token_of : (text : List ℕ) (at n : ℕ) (kind : TokenKind) → at ≤ length text → 0 < n → IsFront IsForm (drop at text) n → IsSpelled kind (take n (drop at text)) → IsTokenOf text (token_at kind at (at + n))
token_of text at n kind h some front spelled = record {
  rises = omega arith;
  within = omega (arith, length-drop at text, front.within);
  spelled = subst (IsSpelled kind) (sym (slice_is text at n)) spelled;
}

pub reaches_more : (text : List ℕ) (from : ℕ) (tokens : List Token) (to : ℕ) (token : Token) → Reaches text from tokens to
    → IsLongest IsGap text to token.span.start → IsLongest IsForm text token.span.start token.span.end → IsTokenOf text token
    → Reaches text from (tokens ++ token ∷ []) token.span.end
reaches_more text from [] to token r gap form is = (subst (λ (k : ℕ). IsLongest IsGap text k token.span.start) (sym r) gap, form, is, refl)
reaches_more text from (t ∷ tokens) to token (g, f, i, r) gap form is = (g, f, i, reaches_more text t.span.end tokens to token r gap form is)

-- no token begins at a place
abbrev pub NoToken : List ℕ → ℕ → Type 0
NoToken text at = (token : Token) → token.span.start ≡ at → IsLongest IsForm text token.span.start token.span.end → IsTokenOf text token → ⊥

pub no_token_at_end : (text : List ℕ) → NoToken text (length text)
no_token_at_end text token e form is = omega (arith, is.rises, is.within)

-- a fault where nothing has a form, and one of a form
abbrev Bare : List ℕ → ℕ → ℕ → LexKind → Type 0
Bare text start at kind = (at ≡ start) × HasNoForm text start × (((kind ≡ OpenText) × (slice_get text start ≡ Some 39)) ⊎ ((kind ≡ UnknownCharacter) × (slice_get text start ≢ Some 39)))

abbrev Rule : List ℕ → ℕ → ℕ → LexKind → Type 0
Rule text start at kind = (end : ℕ) × (further : ℕ) × (at ≡ start + further) × IsLongest IsForm text start end × IsWrong kind (slice_range text start end) further

fails_either : (text : List ℕ) (start at : ℕ) (kind : LexKind) → FailsAt text start at kind → Bare text start at kind ⊎ Rule text start at kind
fails_either text start at UnknownCharacter (e, none, q) = inl (e, none, inr (refl, q))
fails_either text start at OpenText (e, none, q) = inl (e, none, inl (refl, q))
fails_either text start at BadEscape f = inr f
fails_either text start at TextTooLong f = inr f
fails_either text start at NameTooLong f = inr f
fails_either text start at LiteralTooLarge f = inr f

form_length : (bytes : List ℕ) → IsForm bytes → 0 < length bytes
form_length [] f = absurd (nil_no_form f)
form_length (b ∷ rest) f = omega arith

pub form_rises : (text : List ℕ) (start end : ℕ) → IsLongest IsForm text start end → start < end
form_rises text start end f = omega (arith, form_length (slice_range text start end) f.fits, length-take (end - start) (drop start text))

within_by : (text : List ℕ) (start at : ℕ) (kind : LexKind) → Bare text start at kind ⊎ Rule text start at kind → start < length text
within_by text start at kind (inl (e, none, q)) = none.within
within_by text start at kind (inr (end, further, e, form, w)) = omega (arith, form_rises text start end form, form.within)

pub fails_within : (text : List ℕ) (start at : ℕ) (kind : LexKind) → FailsAt text start at kind → start < length text
fails_within text start at kind f = within_by text start at kind (fails_either text start at kind f)

no_token_by : (text : List ℕ) (at : ℕ) (kind : LexKind) (token : Token) → Bare text token.span.start at kind ⊎ Rule text token.span.start at kind
    → IsLongest IsForm text token.span.start token.span.end → IsTokenOf text token → ⊥
no_token_by text at kind token (inl (e, none, q)) form is = none.none token.span.end form.within form.fits
no_token_by text at kind token (inr (end, further, e, rule, wrong)) form is =
    let same : end ≡ token.span.end = one_longest IsForm text token.span.start end token.span.end rule form in
    let piece : List ℕ = bytes_of text token.span in
    let bad : reading_of piece ≡ Wrong kind further = wrong_alone kind piece further (subst (λ (k : ℕ). IsWrong kind (slice_range text token.span.start k) further) same wrong) in
    let good : reading_of piece ≡ Found token.kind (length piece) = spelled_alone token.kind piece is.spelled in
    let no : Wrong kind further ≡ Found token.kind (length piece) = sym bad ∙ good in
    cc

pub fails_no_token : (text : List ℕ) (start at : ℕ) (kind : LexKind) → FailsAt text start at kind → NoToken text start
fails_no_token text start at kind f token e form is =
    no_token_by text at kind token (fails_either text token.span.start at kind (subst (λ (s : ℕ). FailsAt text s at kind) (sym e) f)) form is

same_kind : (text : List ℕ) (start : ℕ) (kind why : LexKind) → ((kind ≡ OpenText) × (slice_get text start ≡ Some 39)) ⊎ ((kind ≡ UnknownCharacter) × (slice_get text start ≢ Some 39))
    → ((why ≡ OpenText) × (slice_get text start ≡ Some 39)) ⊎ ((why ≡ UnknownCharacter) × (slice_get text start ≢ Some 39)) → kind ≡ why
same_kind text start kind why (inl (e, q)) (inl (f, r)) = e ∙ sym f
same_kind text start kind why (inl (e, q)) (inr (f, r)) = absurd (r q)
same_kind text start kind why (inr (e, q)) (inl (f, r)) = absurd (q r)
same_kind text start kind why (inr (e, q)) (inr (f, r)) = e ∙ sym f

same_by : (text : List ℕ) (start at place : ℕ) (kind why : LexKind) → Bare text start at kind ⊎ Rule text start at kind → Bare text start place why ⊎ Rule text start place why → (at ≡ place) × (kind ≡ why)
same_by text start at place kind why (inl (e, none, q)) (inl (f, bare, r)) = (e ∙ sym f, same_kind text start kind why q r)
same_by text start at place kind why (inl (e, none, q)) (inr (end, further, f, form, w)) = absurd (none.none end form.within form.fits)
same_by text start at place kind why (inr (end, further, e, form, w)) (inl (f, none, q)) = absurd (none.none end form.within form.fits)
same_by text start at place kind why (inr (end, further, e, form, w)) (inr (last, more, f, other, v)) =
    let same : last ≡ end = one_longest IsForm text start last end other form in
    let piece : List ℕ = slice_range text start end in
    let one : reading_of piece ≡ Wrong kind further = wrong_alone kind piece further w in
    let two : reading_of piece ≡ Wrong why more = wrong_alone why piece more (subst (λ (k : ℕ). IsWrong why (slice_range text start k) more) same v) in
    let both : Wrong kind further ≡ Wrong why more = sym one ∙ two in
    let offsets : further ≡ more = cc (both) in
    (omega arith, cc (both))

-- there is one fault at a place
pub fails_same : (text : List ℕ) (start at place : ℕ) (kind why : LexKind) → FailsAt text start at kind → FailsAt text start place why → (at ≡ place) × (kind ≡ why)
fails_same text start at place kind why f g = same_by text start at place kind why (fails_either text start at kind f) (fails_either text start place why g)

-- there is one token at a place
pub same_token : (text : List ℕ) (s t : Token) → s.span.start ≡ t.span.start → IsLongest IsForm text s.span.start s.span.end → IsTokenOf text s
    → IsLongest IsForm text t.span.start t.span.end → IsTokenOf text t → s ≡ t
same_token text s t e f i g j =
    let moved : IsLongest IsForm text t.span.start s.span.end = subst (λ (k : ℕ). IsLongest IsForm text k s.span.end) e f in
    let ends : s.span.end ≡ t.span.end = one_longest IsForm text t.span.start s.span.end t.span.end moved g in
    let pieces : bytes_of text s.span ≡ bytes_of text t.span = ap (λ k. slice_range text k s.span.end) e ∙ ap (λ k. slice_range text t.span.start k) ends in
    let one : reading_of (bytes_of text s.span) ≡ Found s.kind (length (bytes_of text s.span)) = spelled_alone s.kind (bytes_of text s.span) i.spelled in
    let two : reading_of (bytes_of text t.span) ≡ Found t.kind (length (bytes_of text t.span)) = spelled_alone t.kind (bytes_of text t.span) j.spelled in
    let both : Found s.kind (length (bytes_of text s.span)) ≡ Found t.kind (length (bytes_of text t.span)) = sym one ∙ ap reading_of pieces ∙ two in
    let kinds : s.kind ≡ t.kind = cc (both) in
    ap (λ k. token_at k s.span.start s.span.end) kinds ∙ ap (λ k. token_at t.kind k s.span.end) e ∙ ap (λ k. token_at t.kind t.span.start k) ends
