use Rattle.std.proofs.Common.{◌+◌, ◌*◌, ◌%◌, ◌++◌, codes, ap, ◌∙◌}
use Rattle.std.specs.Fmt.{decimal}
use Rattle.command_words.proofs.script.script.build_for.Goals as goal

pub returns : goal.returns
returns c =
    let n = c.args.number in
    c.in_ok-extend-3.ensures.ok
    ∙ ap (λ l. l ++ codes ")%1000)") (c.in_ok-write_number-3.ensures
    ∙ ap (λ l. l ++ decimal (n % 1000)) (c.in_ok-extend-2.ensures.ok
    ∙ ap (λ l. l ++ codes "*y+") (c.in_ok-write_number-2.ensures
    ∙ ap (λ l. l ++ decimal (10 * (n % 10) + 3)) (c.in_ok-extend.ensures.ok
    ∙ ap (λ l. l ++ codes "*x+") (c.in_ok-write_number.ensures
    ∙ ap (λ l. l ++ decimal (10 * (n % 100) + 1)) c.in_ok-text.ensures)))))
