use Rattle.std.proofs.Common.{◌+◌, ◌-◌, length, drop, sym, ◌∙◌}
use Rattle.std.proofs.lemmas.List.Elements.{All-take, All-drop}
use Rattle.afl_lexer.specs.Tokens.{IsTokenOf}
use Rattle.schema_grammar.specs.Outcome.{IsSchemaAt, StopsAt}
use Rattle.schema_grammar.proofs.ShapeAt.{next_at, unexpected_at, whole_at, end_at, one_schema_at, no_stop_at, one_stop_at}
use Rattle.schema_grammar.proofs.shapes.shape.Goals as goal

schema_of : (c : goal.In-Whole) → IsSchemaAt c.args.text.now c.args.tokens.now c.args.from c.in-Whole.schema (c.args.from + c.loop-offset.offset + 1)
schema_of c = whole_at c.args.text.now c.args.tokens.now c.args.from c.loop-offset.offset _ c.loop-offset.state c.in-Whole.schema c.in-Whole.field-1
    c.requires.within c.loop-offset-test.true c.loop-offset.invariant (sym (c.in_ok-next.ensures) ∙ c.in-Whole.is)

pub returns-in-Whole-clause-schema : goal.returns-in-Whole-clause-schema
returns-in-Whole-clause-schema c = schema_of c

pub returns-in-Whole-clause-only_schema : goal.returns-in-Whole-clause-only_schema
returns-in-Whole-clause-only_schema c schema next r = one_schema_at c.args.text.now c.args.tokens.now c.args.from _ next _ schema c.requires.within (schema_of c) r

pub returns-in-Whole-clause-only_stop : goal.returns-in-Whole-clause-only_stop
returns-in-Whole-clause-only_stop c at r = no_stop_at c.args.text.now c.args.tokens.now c.args.from _ at _ (schema_of c) r

stop_of : (c : goal.In-Unexpected) → StopsAt c.args.text.now c.args.tokens.now c.args.from (c.args.from + c.loop-offset.offset)
stop_of c = unexpected_at c.args.text.now c.args.tokens.now c.args.from c.loop-offset.offset _ c.loop-offset.state
    c.requires.within c.loop-offset-test.true c.loop-offset.invariant (sym (c.in_ok-next.ensures) ∙ c.in-Unexpected.is)

pub returns-in-Unexpected-clause-stop : goal.returns-in-Unexpected-clause-stop
returns-in-Unexpected-clause-stop c = stop_of c

pub returns-in-Unexpected-clause-only_schema : goal.returns-in-Unexpected-clause-only_schema
returns-in-Unexpected-clause-only_schema c schema next r = no_stop_at c.args.text.now c.args.tokens.now c.args.from next _ schema r (stop_of c)

pub returns-in-Unexpected-clause-only_stop : goal.returns-in-Unexpected-clause-only_stop
returns-in-Unexpected-clause-only_stop c at r = one_stop_at c.args.text.now c.args.tokens.now c.args.from _ at (stop_of c) r

pub loop-offset-preserved : goal.loop-offset-preserved
loop-offset-preserved c = next_at c.args.text.now c.args.tokens.now c.args.from c.loop-offset.offset _ c.loop-offset.state c.in-On.next
    c.loop-offset-test.true c.loop-offset.invariant (sym (c.in_ok-next.ensures) ∙ c.in-On.is)

end_of : (c : goal.Joined-state) → StopsAt c.args.text.now c.args.tokens.now c.args.from (length c.args.tokens.now)
end_of c = end_at c.args.text.now c.args.tokens.now c.args.from c.loop-offset.offset c.loop-offset.state
    c.requires.within c.loop-offset.auto.offset-end c.loop-offset-test.false c.loop-offset.invariant

pub returns-clause-stop : goal.returns-clause-stop
returns-clause-stop c = end_of c

pub returns-clause-only_schema : goal.returns-clause-only_schema
returns-clause-only_schema c schema next r = no_stop_at c.args.text.now c.args.tokens.now c.args.from next _ schema r (end_of c)

pub returns-clause-only_stop : goal.returns-clause-only_stop
returns-clause-only_stop c at r = one_stop_at c.args.text.now c.args.tokens.now c.args.from _ at (end_of c) r

pub read_shape-requires : goal.read_shape-requires
read_shape-requires c =
    let text = c.args.text.now in
    let behind = drop c.args.from c.args.tokens.now in
    All-take (IsTokenOf text) (length c.args.tokens.now - c.args.from) behind (All-drop (IsTokenOf text) c.args.from c.args.tokens.now c.requires.tokens)
    c.loop-offset.offset _ c.loop-offset-test.true
