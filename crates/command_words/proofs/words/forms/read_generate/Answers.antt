use Rattle.std.proofs.Common.{sym, ◌∙◌}
use Rattle.command_words.proofs.Slices.{generate_first}
use Rattle.command_words.proofs.words.forms.read_generate.Goals as goal

pub returns-in-Some : goal.returns-in-Some
returns-in-Some c =
    c.read_workers.ensures
    ∙ generate_first c.args.words.now c.digits-item.result c.as_str.result.now c.in-Some.number c.in-len1-up.len_at_least c.digits-item.is c.as_str.ensures
    (sym c.script_number.ensures ∙ c.in-Some.is)
