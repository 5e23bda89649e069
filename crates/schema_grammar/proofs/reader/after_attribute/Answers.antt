use Rattle.std.proofs.Common.{sym, ap, ◌∙◌}
use Rattle.schema_grammar.specs.declared.state.AttrPlace.TheVariants.{First}
use Rattle.schema_grammar.specs.declared.state.ShapeState.TheVariants.{Attributes, Between}
use Rattle.schema_grammar.specs.declared.state.ShapeStep.TheVariants.{On}
use Rattle.schema_grammar.specs.Inner.Reading.{attr_goes}
use Rattle.schema_grammar.proofs.reader.after_attribute.Goals as goal

pub returns-in-On : goal.returns-in-On
returns-in-On c = sym (ap (attr_goes c.args.start c.args.attributes) c.in-On.is)

pub returns-in_ok-attributes-in-Next : goal.returns-in_ok-attributes-in-Next
returns-in_ok-attributes-in-Next c =
    ap (λ l. On (Attributes c.args.start l First)) c.in_ok-attributes-in-Next.ensures ∙ sym (ap (attr_goes c.args.start c.args.attributes) c.in-Next.is)

pub returns-in_ok-attributes-in-Last : goal.returns-in_ok-attributes-in-Last
returns-in_ok-attributes-in-Last c =
    ap (λ l. On (Between c.args.start l)) c.in_ok-attributes-in-Last.ensures ∙ sym (ap (attr_goes c.args.start c.args.attributes) c.in-Last.is)
