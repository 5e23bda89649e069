use Rattle.std.proofs.Common.{sym, ◌∙◌}
use Rattle.check_rules.proofs.TextLemmas.{spelled_some, spelled_none}
use Rattle.check_rules.proofs.literals.rows.literal_rows.Goals as goal

pub returns-in-Some-clause-spelled : goal.returns-in-Some-clause-spelled
returns-in-Some-clause-spelled c =
    spelled_some c.args.attributes.now c.args.dimension.now c.args.text.now c.in-Some.elements c.rows_of.result (sym c.in-Some.is ∙ c.in_ok-elements.ensures) c.rows_of.ensures

pub returns-in-None-clause-spelled : goal.returns-in-None-clause-spelled
returns-in-None-clause-spelled c = spelled_none c.args.attributes.now c.args.dimension.now c.args.text.now (sym c.in-None.is ∙ c.in_ok-elements.ensures)
