use Rattle.std.proofs.Common.{sym, ◌∙◌}
use Rattle.command_words.proofs.Numbers.{script_number_read}
use Rattle.command_words.proofs.words.settings.script_number.Goals as goal

pub returns-then-is_number : goal.returns-then-is_number
returns-then-is_number c =
    c.ok.ensures.value
    ∙ script_number_read c.args.word.now (sym c.is_number.ensures ∙ c.if-is_number.true) c.parse.result c.parse.ensures.value.0
