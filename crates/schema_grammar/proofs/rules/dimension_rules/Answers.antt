use Rattle.std.proofs.Common.{◌≡◌, not, refl, sym, ap, ◌∙◌, rules}
use Rattle.std.specs.Prelude.{nat_lt, int_le}
use Rattle.afl_lexer.specs.Schemas.{is_bound}
use Rattle.schema_grammar.specs.Rules.{rule}
use Rattle.schema_grammar.specs.declared.kinds.TypeKind.TheVariants.{TooManyDimensions, RepeatedName, BoundsRange, BoundsOrder}
use Rattle.schema_grammar.proofs.RuleLemmas.{count_dimensions}
use Rattle.schema_grammar.proofs.Meanings.{one_more}
use Rattle.schema_grammar.proofs.rules.dimension_rules.Goals as goal

pub returns : goal.returns
returns c =
    let w = c.args.written.now in
    let low : c.is_bound.result ≡ is_bound w.lo = search rules in
    let high : c.is_bound-2.result ≡ is_bound w.hi = search rules in
    let order : c.new-5.result ≡ rule (int_le w.lo w.hi) w.hi_span BoundsOrder = search rules in
    one_more (c.new.ensures ∙ ap (λ n. rule (nat_lt n 6) w.name_span TooManyDimensions) (sym (count_dimensions c.args.before.now)))
    (one_more (c.new-2.ensures ∙ ap (λ b. rule (not b) w.name_span RepeatedName) c.is_used-is_repeated.ensures)
    (one_more (c.new-3.ensures ∙ ap (λ b. rule b w.lo_span BoundsRange) low)
    (one_more (c.new-4.ensures ∙ ap (λ b. rule b w.hi_span BoundsRange) high)
    (one_more order
    (one_more c.new-6.ensures
    (one_more c.new-7.ensures refl))))))
