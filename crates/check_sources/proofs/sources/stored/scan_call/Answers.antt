use Rattle.std.proofs.Common.{◌≡◌, List, Err, sym, subst, arith}
use Rattle.schema_grammar.specs.declared.kinds.TypeKind.TheVariants.{WrongCount}
use Rattle.afl_trees.specs.Term.{Term, to_terms}
use Rattle.logical_plan.specs.Query.{Query}
use Rattle.check_rules.specs.Checked.{Answers, Checked, refused}
use Rattle.check_sources.specs.Stored.{scan_call}
use Rattle.check_rules.specs.declared.rules.fault.TypeFault.{TypeFault}
use Rattle.check_sources.proofs.Arguments.{few_for_scan, many_for_scan}
use Rattle.check_exprs.proofs.Operands.{one}
use Rattle.check_sources.proofs.sources.stored.scan_call.Goals as goal

pub returns-in-len1 : goal.returns-in-len1
returns-in-len1 c =
    subst (λ (xs : List Term). Answers c.referred.result (scan_call c.args.arrays.now c.args.span (to_terms xs)))
    (sym (one c.args.arguments.now c.array-item.result c.in-len1.len_at_least c.in-len1.len_below c.array-item.is))
    c.referred.ensures

pub returns-in_default : goal.returns-in_default
returns-in_default c =
    let made : Checked Query = scan_call c.args.arrays.now c.args.span (to_terms c.args.arguments.now) in
    let is : made ≡ refused c.args.span WrongCount = grind (arith, few_for_scan, many_for_scan) in
    subst (λ (fault : TypeFault). Answers {A = Query} (Err fault) made) (sym c.broken.ensures) is
