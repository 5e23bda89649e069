use Rattle.std.proofs.Common.{sym, ap, ◌∙◌}
use Rattle.schema_grammar.specs.declared.state.DimPlace.TheVariants.{First}
use Rattle.schema_grammar.specs.declared.state.ShapeState.TheVariants.{Dimensions}
use Rattle.schema_grammar.specs.declared.state.ShapeStep.TheVariants.{On, Whole}
use Rattle.schema_grammar.specs.Spelling.{across}
use Rattle.schema_grammar.specs.Inner.Reading.{whole_schema, dim_goes}
use Rattle.schema_grammar.proofs.reader.after_dimension.Goals as goal

pub returns-in-Ok : goal.returns-in-Ok
returns-in-Ok c =
    ap (λ l. On (Dimensions c.args.head l First)) c.in-Ok.ensures ∙ sym (ap (λ step. dim_goes c.args.head c.args.dimensions step c.args.span) c.in-Next.is)

pub returns-in-Ok-with_part : goal.returns-in-Ok-with_part
returns-in-Ok-with_part c =
    let head = c.args.head in
    c.whole.ensures
    ∙ ap (λ l. Whole (whole_schema head.attributes l (across head.bracket c.args.span)) (across head.start c.args.span)) c.in-Ok-with_part.ensures
    ∙ sym (ap (λ step. dim_goes head c.args.dimensions step c.args.span) c.in-Last.is)

pub returns-in-On : goal.returns-in-On
returns-in-On c = sym (ap (λ step. dim_goes c.args.head c.args.dimensions step c.args.span) c.in-On.is)
