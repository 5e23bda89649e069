use Rattle.std.proofs.Common.{◌+◌, ◌<◌, List, ◌∷◌, length, sym, ap, subst, ◌∙◌}
use Rattle.std.proofs.lemmas.Bool.{lt-ltb}
use Rattle.afl_parser.specs.Inner.Machine.{Go, shallow}
use Rattle.afl_parser.specs.declared.frame.Focus.TheVariants.{Want}
use Rattle.afl_parser.specs.declared.frame.Frame.{Frame}
use Rattle.afl_parser.proofs.reader.open.Goals as goal

pub returns-in-Ok : goal.returns-in-Ok
returns-in-Ok c =
    let less = lt-ltb (length c.args.stack + 1) 128 (subst (λ n. n + 1 < 128) c.len.ensures c.if-len-lt-DEPTH.true) in
    ap (λ b. shallow b (Go (c.args.frame ∷ c.args.stack) Want)) less ∙ ap (λ (k : List Frame). Go k Want) (sym c.in-Ok.ensures)
