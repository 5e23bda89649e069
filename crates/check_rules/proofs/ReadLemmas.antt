-- The reader of literals, from token to token.
use Rattle.std.proofs.Common.{◌≡◌, ℕ, suc, ◌+◌, ◌<◌, Bool, List, length, map, drop, slice_index_or, Option, sym, ap, ◌∙◌, arith}
use Rattle.std.proofs.Math.Seq.{drop-cons}
use Rattle.cell_values.specs.declared.datum.Datum.{Datum}
use Rattle.afl_lexer.specs.declared.token.Token.{Token}
use Rattle.afl_lexer.specs.Lexemes.{lexeme_of}
use Rattle.check_rules.specs.Literals.{mark_of, whats}
use Rattle.check_rules.specs.Inner.Reader.{turn, read_next, read_marks}
use Rattle.check_rules.specs.declared.literals.literal.Begun.{Begun}
use Rattle.check_rules.specs.declared.literals.literal.Mark.{Mark}

-- the elements that the tokens from one place on spell, with what is read before
abbrev pub read_tokens : Bool → List ℕ → List Token → Begun → Option (List (List Datum))
read_tokens bare text tokens b = read_marks bare (map mark_of (whats text tokens)) b

pub next_token : (bare : Bool) (text : List ℕ) (tokens : List Token) (i : ℕ) (d : Token) (b : Begun) → i < length tokens
    → read_tokens bare text (drop i tokens) b ≡ read_next (turn bare b (mark_of (lexeme_of text (slice_index_or tokens i d)).what)) (read_tokens bare text (drop (i + 1) tokens))
next_token bare text tokens i d b h =
    let more : suc i ≡ i + 1 = omega arith in
    let seen : Option Begun = turn bare b (mark_of (lexeme_of text (slice_index_or tokens i d)).what) in
    ap (λ (ts : List Token). read_tokens bare text ts b) (drop-cons tokens i d h)
    ∙ ap (λ (k : ℕ). read_next seen (read_tokens bare text (drop k tokens))) more

-- the tokens behind one that was read
pub read_on : (bare : Bool) (text : List ℕ) (tokens : List Token) (i : ℕ) (d : Token) (b : Begun) (mark : Mark) (next seen : Option Begun)
    {all : Option (List (List Datum))}
    → i < length tokens → mark ≡ mark_of (lexeme_of text (slice_index_or tokens i d)).what → next ≡ turn bare b mark → next ≡ seen
    → read_tokens bare text (drop i tokens) b ≡ all → read_next seen (read_tokens bare text (drop (i + 1) tokens)) ≡ all
read_on bare text tokens i d b mark next seen h m e s before =
    ap (λ (o : Option Begun). read_next o (read_tokens bare text (drop (i + 1) tokens))) (sym s ∙ e ∙ ap (turn bare b) m)
    ∙ sym (next_token bare text tokens i d b h) ∙ before
