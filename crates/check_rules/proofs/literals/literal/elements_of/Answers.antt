use Rattle.std.proofs.Common.{◌≡◌, ◌≤◌, ℕ, Bool, List, length, Option, Some, None, IfOk, sym, ap, ◌∙◌, subst}
use Rattle.cell_values.specs.declared.datum.Datum.{Datum}
use Rattle.afl_lexer.specs.declared.token.Token.{Token}
use Rattle.check_rules.specs.Literals.{whats}
use Rattle.check_rules.specs.Inner.Reader.{spelled, spelled_by, elements_of}
use Rattle.check_rules.specs.Inner.Lexed.{tokens_of}
use Rattle.check_rules.proofs.LexedLemmas.{tokens_are, tokens_stop}
use Rattle.check_rules.proofs.TextLemmas.{few_elements}
use Rattle.check_rules.proofs.literals.literal.elements_of.Goals as goal

has_tokens : (bare : Bool) (text : List ℕ) (tokens : List Token) → length text ≤ 65535 → tokens_of text ≡ Some tokens → elements_of bare text ≡ spelled bare (whats text tokens)
has_tokens bare text tokens few e = few_elements bare text few ∙ ap (spelled_by bare text) e

has_none : (bare : Bool) (text : List ℕ) → length text ≤ 65535 → tokens_of text ≡ None → None ≡ elements_of bare text
has_none bare text few e = sym (few_elements bare text few ∙ ap (spelled_by bare text) e)

pub returns-in-Ok : goal.returns-in-Ok
returns-in-Ok c =
    let bare = c.args.is_bare in
    let text = c.args.text.now in
    let tokens = c.in-Ok.tokens in
    let here : elements_of bare text ≡ spelled bare (whats text tokens) = has_tokens bare text tokens c.if-text-gt-MAX_TEXT.false (tokens_are text tokens c.in-Ok.ensures.tokens) in
    subst (λ (x : Option (List (List Datum))). IfOk c.read_tokens.result (λ elements. elements ≡ x))
    (ap (λ (ts : List Token). spelled bare (whats text ts)) c.as_slice.ensures ∙ sym here)
    c.read_tokens.ensures

pub returns-in-Err-At : goal.returns-in-Err-At
returns-in-Err-At c =
    has_none c.args.is_bare c.args.text.now c.if-text-gt-MAX_TEXT.false
    (tokens_stop c.args.text.now c.in-Err-At.field-0-0 c.in-Err-At.field-0-1 (rw c.in-Err-At.field-0-is at c.in-Err-At.ensures.stop))
