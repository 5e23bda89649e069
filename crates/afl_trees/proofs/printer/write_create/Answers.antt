use Rattle.std.proofs.Common.{◌++◌, codes}
use Rattle.std.proofs.lemmas.Result.{IfOk-equal}
use Rattle.schema_grammar.specs.SchemaBytes.{shape_bytes}
use Rattle.schema_grammar.proofs.Joined.{ended}
use Rattle.afl_trees.proofs.printer.write_create.Goals as goal

pub returns : goal.returns
returns c =
    IfOk-equal c.write_schema.result c.write_schema.new.out _ _ c.write_schema.ensures
    (ended c.args.out.now c.write_title.new.out (codes "create array " ++ c.args.name.now ++ codes " ") (shape_bytes c.args.schema.now) c.in_ok-write_title.ensures)
