use Rattle.std.proofs.Common.{sym, ◌∙◌}
use Rattle.command_words.proofs.Numbers.{number_unparsed}
use Rattle.command_words.proofs.words.settings.number_within.Goals as goal

pub returns-in_default-3 : goal.returns-in_default-3
returns-in_default-3 c =
    sym (number_unparsed c.args.word.now c.args.least c.args.most c.ranges.most.fits (sym c.is_number.ensures ∙ c.if-not-is_number.false) c.parse.result c.in_default.field-0 c.in_default.is c.parse.ensures.value.0)
