use Rattle.std.proofs.Common.{map, ◌++◌, ap, subst, ◌∙◌}
use Rattle.std.specs.List.{All, join_with_byte}
use Rattle.std.proofs.lemmas.List.{take_all}
use Rattle.afl_lexer.specs.Naming.{IsName}
use Rattle.schema_grammar.proofs.Joined.{joined_after, all_after}
use Rattle.schema_grammar.proofs.printer.write_all.Goals as goal

pub loop-at-preserved : goal.loop-at-preserved
loop-at-preserved g c = (
  joined_after g.T.Written.bytes c.args.parts.now c.loop-at.at c.index-parts-at.result c.args.out.now c.loop-at.out c.separate.new.out c.write.new.out
      c.loop-at-test.true c.index-parts-at.is c.loop-at.invariant.0 c.in_ok-separate.ensures c.in_ok-write.ensures.text,
  all_after (λ part. IsName (g.T.Written.named part)) c.args.parts.now c.loop-at.at c.index-parts-at.result c.loop-at-test.true c.index-parts-at.is c.loop-at.invariant.1 c.in_ok-write.ensures.name,
)

pub returns-clause-text : goal.returns-clause-text
returns-clause-text g c =
    c.loop-at.invariant.0 ∙ ap (λ l. c.args.out.now ++ join_with_byte 44 (map g.T.Written.bytes l)) (take_all c.loop-at.at c.args.parts.now c.loop-at-test.false)

pub returns-clause-names : goal.returns-clause-names
returns-clause-names g c =
    subst (All (λ part. IsName (g.T.Written.named part))) (take_all c.loop-at.at c.args.parts.now c.loop-at-test.false) c.loop-at.invariant.1
