use Rattle.std.proofs.Common.{◌++◌, codes, ap, ◌∙◌, to_z-of_z}
use Rattle.std.proofs.lemmas.Result.{IfOk-equal}
use Rattle.std.specs.Fmt.{signed_decimal}
use Rattle.schema_grammar.specs.SchemaBytes.{high_bytes}
use Rattle.schema_grammar.proofs.Joined.{ended, more}
use Rattle.schema_grammar.proofs.printer.write_bounds.Goals as goal

pub returns : goal.returns
returns c =
    let out = c.args.out.now in
    let low = signed_decimal c.args.lo in
    let first = c.in_ok-write_bound.ensures ∙ ap (λ z. out ++ signed_decimal z) (to_z-of_z c.ranges.lo) in
    let behind = more out c.write_bound.new.out c.push.new.self low (codes ":") first c.in_ok-push.ensures.ok in
    IfOk-equal c.write_high.result c.write_high.new.out _ _ c.write_high.ensures
    (ap (λ z. c.push.new.self ++ high_bytes z) (to_z-of_z c.ranges.hi) ∙ ended out c.push.new.self (low ++ codes ":") (high_bytes c.args.hi) behind)
