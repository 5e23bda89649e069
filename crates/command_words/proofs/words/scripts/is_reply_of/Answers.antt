use Rattle.std.proofs.Common.{◌≡◌, true, not, ◌++◌, List, ℕ, codes, sym, ap, ◌∙◌}
use Rattle.std.specs.Str.{bytes_eq}
use Rattle.command_words.proofs.Names.{reply_is}
use Rattle.command_words.proofs.words.scripts.is_reply_of.Goals as goal

pub returns-then-ne : goal.returns-then-ne
returns-then-ne c =
    let plain : true ≡ not (bytes_eq c.args.script.now (codes "-")) = sym c.if-ne.true ∙ c.ne.ensures in
    let cut = c.in-Some.ensures.cases in
    reply_is c.args.name.now c.args.script.now c.in-Some.front.now
    (cut.1.1 ∙ ap (λ (l : List ℕ). l ++ codes ".out") (sym cut.2)) plain c.eq.result c.eq.ensures
