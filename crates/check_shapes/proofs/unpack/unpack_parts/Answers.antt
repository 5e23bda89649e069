use Rattle.std.proofs.Common.{◌≡◌, List, Err, sym, subst, arith}
use Rattle.cell_values.specs.declared.schema.Schema.{Schema}
use Rattle.schema_grammar.specs.declared.kinds.TypeKind.TheVariants.{WrongCount}
use Rattle.afl_trees.specs.Term.{Term}
use Rattle.check_rules.specs.Checked.{Answers, Checked, refused}
use Rattle.check_rules.specs.declared.rules.fault.TypeFault.{TypeFault}
use Rattle.check_exprs.proofs.Operands.{one}
use Rattle.check_shapes.specs.Unpack.{unpack_parts}
use Rattle.check_shapes.proofs.Arguments.{few_for_unpack, many_for_unpack}
use Rattle.check_shapes.proofs.unpack.unpack_parts.Goals as goal

pub returns-in-len1 : goal.returns-in-len1
returns-in-len1 c =
    subst (λ (xs : List Term). Answers c.unpack_under.result (unpack_parts c.args.span c.args.source.now xs))
    (sym (one c.args.arguments.now c.name-item.result c.in-len1.len_at_least c.in-len1.len_below c.name-item.is))
    c.unpack_under.ensures

pub returns-in_default : goal.returns-in_default
returns-in_default c =
    let made : Checked Schema = unpack_parts c.args.span c.args.source.now c.args.arguments.now in
    let is : made ≡ refused c.args.span WrongCount = grind (arith, few_for_unpack, many_for_unpack) in
    subst (λ (fault : TypeFault). Answers {A = Schema} (Err fault) made) (sym c.broken.ensures) is
