use Rattle.std.proofs.Common.{◌≡◌, ◌++◌, codes, ap, ◌∙◌}
use Rattle.std.specs.Fmt.{signed_decimal}
use Rattle.std.proofs.lemmas.Int.{to_z-of_z}
use Rattle.std.proofs.lemmas.Result.{IfOk-equal}
use Rattle.schema_grammar.proofs.Joined.{ended, more}
use Rattle.afl_trees.proofs.printer.write_version.Goals as goal

pub returns : goal.returns
returns c =
    let out = c.args.out.now in
    let name = c.args.name.now in
    let first : c.extend.new.self ≡ out ++ name = c.in_ok-extend.ensures.ok ∙ ap (λ l. out ++ l) c.as_slice.ensures.value in
    let behind = more out c.extend.new.self c.push.new.self name (codes "@") first c.in_ok-push.ensures.ok in
    IfOk-equal c.write_number.result c.write_number.new.out _ _ c.write_number.ensures
    (ap (λ z. c.push.new.self ++ signed_decimal z) (to_z-of_z _ _ c.ranges.number)
    ∙ ended out c.push.new.self (name ++ codes "@") (signed_decimal c.args.number) behind)
