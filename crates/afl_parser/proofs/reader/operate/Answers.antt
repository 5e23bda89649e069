use Rattle.std.proofs.Common.{◌≡◌, ◌+◌, ◌≤◌, true, ◌&&◌, List, ◌∷◌, length, nat_le, sym, ap, ◌∙◌, arith}
use Rattle.std.proofs.lemmas.Bool.{le-leb}
use Rattle.afl_trees.specs.Grammar.{height, left_line, line, line_of}
use Rattle.afl_parser.specs.Inner.Machine.{Go, expected, operated, shallow, want}
use Rattle.afl_parser.specs.declared.frame.Focus.TheVariants.{Want}
use Rattle.afl_parser.specs.declared.frame.Frame.{Frame}
use Rattle.afl_parser.specs.declared.frame.Frame.TheVariants.{Left}
use Rattle.afl_parser.proofs.reader.operate.Goals as goal

pub returns-in-Err : goal.returns-in-Err
returns-in-Err c = c.give_up.ensures (operated 128 c.args.op (c.args.stack, c.args.tree))

pub returns-in-Ok : goal.returns-in-Ok
returns-in-Ok c =
    let op = c.args.op in
    let stack = c.args.stack in
    let tree = c.args.tree in
    let wanted : want stack ≤ line_of op = omega (arith, c.want.ensures, c.operator_line.ensures, c.if-want-operator_line.true) in
    let stands : left_line op ≤ line tree = omega (arith, c.left_line.ensures, c.top_line.ensures, ap line c.tree.ensures, c.if-left_line-top_line.true) in
    let fits : length stack + 1 + height tree ≤ 128 = omega (arith, c.len.ensures, c.height.ensures, c.if-len-height-le-DEPTH.true) in
    let both : (nat_le (want stack) (line_of op) && nat_le (left_line op) (line tree)) ≡ true
    = ap (λ b. b && nat_le (left_line op) (line tree)) (le-leb (want stack) (line_of op) wanted) ∙ le-leb (left_line op) (line tree) stands in
    ap (λ b. expected b (shallow (nat_le (length stack + 1 + height tree) 128) (Go (Left op tree ∷ stack) Want))) both
    ∙ ap (λ b. shallow b (Go (Left op tree ∷ stack) Want)) (le-leb (length stack + 1 + height tree) 128 fits)
    ∙ ap (λ (k : List Frame). Go k Want) (sym c.in-Ok.ensures)
