use Rattle.std.proofs.Common.{◌++◌, map, codes}
use Rattle.std.specs.List.{join_with_byte}
use Rattle.std.proofs.lemmas.Result.{IfOk-equal, on_ok_weaker}
use Rattle.schema_grammar.proofs.Joined.{ended, more}
use Rattle.schema_grammar.proofs.printer.write_schema.Goals as goal

pub returns-clause-text : goal.returns-clause-text
returns-clause-text g c =
    let out = c.args.out.now in
    let first = join_with_byte 44 (map g.A.Written.bytes c.args.attributes.now) in
    let second = join_with_byte 44 (map g.D.Written.bytes c.args.dimensions.now) in
    let listed = more out c.push.new.self c.write_all.new.out (codes "<") first c.in_ok-push.ensures.ok c.in_ok-write_all.ensures.text in
    let opened = more out c.write_all.new.out c.extend.new.self (codes "<" ++ first) (codes ">[") listed c.in_ok-extend.ensures.ok in
    let behind = more out c.extend.new.self c.write_all-2.new.out (codes "<" ++ first ++ codes ">[") second opened c.in_ok-write_all-2.ensures.text in
    IfOk-equal c.push-2.result c.push-2.new.self _ _ c.push-2.ensures.ok
    (ended out c.write_all-2.new.out (codes "<" ++ first ++ codes ">[" ++ second) (codes "]") behind)

pub returns-clause-attributes : goal.returns-clause-attributes
returns-clause-attributes g c = on_ok_weaker c.push-2.result (λ _. c.in_ok-write_all.ensures.names) c.push-2.ensures.ok

pub returns-clause-dimensions : goal.returns-clause-dimensions
returns-clause-dimensions g c = on_ok_weaker c.push-2.result (λ _. c.in_ok-write_all-2.ensures.names) c.push-2.ensures.ok
