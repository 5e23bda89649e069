use Rattle.std.proofs.Common.{◌<◌, ◌≤◌, length, sym, ap, subst}
use Rattle.std.proofs.lemmas.Bool.{le-ltb, lt-ltb}
use Rattle.afl_parser.specs.Inner.Machine.{Go, shallow}
use Rattle.afl_parser.specs.Inner.Reply.{Gives}
use Rattle.afl_parser.proofs.reader.enter.Goals as goal

pub returns-else-len-lt-DEPTH : goal.returns-else-len-lt-DEPTH
returns-else-len-lt-DEPTH c =
    let deep = le-ltb (length c.args.stack) 128 (subst (λ n. 128 ≤ n) c.len.ensures c.if-len-lt-DEPTH.false) in
    subst (Gives c.stop.result) (sym (ap (λ b. shallow b (Go c.args.stack c.args.focus)) deep)) c.stop.ensures

pub returns-then-len-lt-DEPTH : goal.returns-then-len-lt-DEPTH
returns-then-len-lt-DEPTH c =
    ap (λ b. shallow b (Go c.args.stack c.args.focus)) (lt-ltb (length c.args.stack) 128 (subst (λ n. n < 128) c.len.ensures c.if-len-lt-DEPTH.true))
