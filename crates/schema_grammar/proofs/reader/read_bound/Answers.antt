use Rattle.std.proofs.Common.{◌≡◌, pos, neg_ℤ, ◌≤ℤ◌, sym, ap, subst, ◌∙◌, rules}
use Rattle.afl_lexer.specs.Lexemes.{what_of}
use Rattle.schema_grammar.specs.declared.state.Bound.{Bound}
use Rattle.schema_grammar.specs.declared.state.BoundPlace.TheVariants.{LowMinus, Lowered, HighMinus}
use Rattle.schema_grammar.specs.declared.state.DimPlace.TheVariants.{Bounds, Numbers}
use Rattle.schema_grammar.specs.declared.state.NumberPlace.TheVariants.{Bounded}
use Rattle.schema_grammar.specs.declared.state.PartStep.TheVariants.{On}
use Rattle.schema_grammar.specs.Spelling.{across}
use Rattle.schema_grammar.specs.Inner.Reading.{bound, bound_step}
use Rattle.schema_grammar.specs.Inner.Unsigned.{IsUnsigned}
use Rattle.schema_grammar.proofs.Numbers.{low_minus_read, high_minus_read}
use Rattle.schema_grammar.proofs.reader.read_bound.Goals as goal

pub negated-lo-requires : goal.negated-lo-requires
negated-lo-requires c =
    let unsigned : pos 0 ≤ℤ c.in-Int.value = subst IsUnsigned c.in-Int.is c.requires in
    search rules

pub negated-hi-requires : goal.negated-hi-requires
negated-hi-requires c =
    let unsigned : pos 0 ≤ℤ c.in-Int-kind.value = subst IsUnsigned c.in-Int-kind.is c.requires in
    search rules

pub returns-in-Int : goal.returns-in-Int
returns-in-Int c bytes =
    let n = c.in-Int.value in
    let minus = c.in-LowMinus.minus in
    let span = c.args.token.span in
    let same : c.negated-lo.result ≡ bound (neg_ℤ n) (across minus span) = search rules in
    ap (λ (lo : Bound). On (Bounds c.args.label (Lowered lo))) same
    ∙ sym (low_minus_read c.args.label minus span n (subst IsUnsigned c.in-Int.is c.requires))
    ∙ sym (ap (λ kind. bound_step c.args.label (LowMinus minus) span (what_of kind bytes)) c.in-Int.is)
    ∙ sym (ap (λ place. bound_step c.args.label place span (what_of c.args.token.kind bytes)) c.in-LowMinus.is)

pub returns-in-Int-kind : goal.returns-in-Int-kind
returns-in-Int-kind c bytes =
    let n = c.in-Int-kind.value in
    let lo = c.in-HighMinus.lo in
    let minus = c.in-HighMinus.minus in
    let span = c.args.token.span in
    let same : c.negated-hi.result ≡ bound (neg_ℤ n) (across minus span) = search rules in
    ap (λ (hi : Bound). On (Numbers c.args.label lo hi Bounded)) same
    ∙ sym (high_minus_read c.args.label lo minus span n (subst IsUnsigned c.in-Int-kind.is c.requires))
    ∙ sym (ap (λ kind. bound_step c.args.label (HighMinus lo minus) span (what_of kind bytes)) c.in-Int-kind.is)
    ∙ sym (ap (λ place. bound_step c.args.label place span (what_of c.args.token.kind bytes)) c.in-HighMinus.is)

pub returns-in-High : goal.returns-in-High
returns-in-High c bytes =
    c.read_high.ensures bytes ∙ sym (ap (λ place. bound_step c.args.label place c.args.token.span (what_of c.args.token.kind bytes)) c.in-High.is)
