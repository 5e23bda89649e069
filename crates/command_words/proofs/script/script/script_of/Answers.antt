use Rattle.std.proofs.Common.{◌++◌, ap, ◌∙◌}
use Rattle.command_words.specs.Script.{storing}
use Rattle.command_words.proofs.script.script.script_of.Goals as goal

pub returns : goal.returns
returns c =
    c.in_ok-extend.ensures.ok
    ∙ ap (λ l. l ++ c.as_slice.result.now) c.in_ok-text.ensures
    ∙ ap (λ l. storing c.args.number ++ l) (c.as_slice.ensures ∙ c.in_ok-more.ensures)
