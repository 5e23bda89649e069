use Rattle.std.proofs.Common.{◌≡◌, List, Err, sym, subst, arith}
use Rattle.schema_grammar.specs.declared.kinds.TypeKind.TheVariants.{WrongCount}
use Rattle.afl_trees.specs.Term.{Term}
use Rattle.logical_plan.specs.Query.{Query}
use Rattle.check_rules.specs.Checked.{Answers, Checked, refused}
use Rattle.check_rules.specs.declared.rules.fault.TypeFault.{TypeFault}
use Rattle.check_exprs.proofs.Operands.{one}
use Rattle.check_cellwise.specs.Filter.{filter_call}
use Rattle.check_cellwise.proofs.Arguments.{few_for_filter, many_for_filter}
use Rattle.check_cellwise.proofs.cells.filter.filter_call.Goals as goal

pub returns-in-len1 : goal.returns-in-len1
returns-in-len1 c =
    subst (λ (xs : List Term). Answers c.filter_over.result (filter_call c.args.span c.args.source xs))
    (sym (one c.args.arguments.now c.test-item.result c.in-len1.len_at_least c.in-len1.len_below c.test-item.is))
    c.filter_over.ensures

pub returns-in_default : goal.returns-in_default
returns-in_default c =
    let made : Checked Query = filter_call c.args.span c.args.source c.args.arguments.now in
    let is : made ≡ refused c.args.span WrongCount = grind (arith, few_for_filter, many_for_filter) in
    subst (λ (fault : TypeFault). Answers {A = Query} (Err fault) made) (sym c.broken.ensures) is
