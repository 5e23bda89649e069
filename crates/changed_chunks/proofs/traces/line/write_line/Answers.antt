use Rattle.std.proofs.Common.{◌∙◌, ◌++◌, ℕ, List, ap}
use Rattle.std.specs.Prelude.{codes}
use Rattle.std.specs.Fmt.{decimal}
use Rattle.changed_chunks.proofs.Kept.{line_written}
use Rattle.changed_chunks.proofs.traces.line.write_line.Goals as goal

pub returns : goal.returns
returns c =
    line_written c.write_counts.result c.args.out.now c.extend.new.self c.extend-2.new.self c.push.new.self c.write_number.new.out c.write_counts.new.out
    (codes "trace: ") c.args.name.now (codes "@") (decimal c.args.version) (codes " asked ") (decimal c.args.asking.asked) (codes " of ") (decimal c.args.asking.stored) (codes "\n")
    c.in_ok-extend.ensures.ok (c.in_ok-extend-2.ensures.ok ∙ ap (λ (z : List ℕ). c.extend.new.self ++ z) c.as_slice.ensures.value) c.in_ok-push.ensures.ok
    (c.in_ok-write_number.ensures ∙ ap (λ (n : ℕ). c.push.new.self ++ decimal n) c.from.ensures) c.write_counts.ensures
