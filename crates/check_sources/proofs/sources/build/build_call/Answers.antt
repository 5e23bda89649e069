use Rattle.std.proofs.Common.{◌≡◌, List, Err, sym, subst, arith}
use Rattle.schema_grammar.specs.declared.kinds.TypeKind.TheVariants.{WrongCount}
use Rattle.afl_trees.specs.Term.{Term, to_terms}
use Rattle.logical_plan.specs.Query.{Query}
use Rattle.check_rules.specs.Checked.{Answers, Checked, refused}
use Rattle.check_sources.specs.Build.{build_call}
use Rattle.check_rules.specs.declared.rules.fault.TypeFault.{TypeFault}
use Rattle.check_sources.proofs.Arguments.{few_for_build, many_for_build}
use Rattle.check_exprs.proofs.Operands.{two, three}
use Rattle.check_sources.proofs.sources.build.build_call.Goals as goal

pub returns-in-len2 : goal.returns-in-len2
returns-in-len2 c =
    subst (λ (xs : List Term). Answers c.build_two.result (build_call c.args.span (to_terms xs)))
    (sym (two c.args.arguments.now c.shape-item.result c.value-item.result c.in-len2.len_at_least c.in-len2.len_below c.shape-item.is c.value-item.is))
    (c.build_two.ensures c.args.span)

pub returns-in-len3 : goal.returns-in-len3
returns-in-len3 c =
    subst (λ (xs : List Term). Answers c.build_three.result (build_call c.args.span (to_terms xs)))
    (sym (three c.args.arguments.now c.shape-item-then-arguments-lt4.result c.value-item-then-arguments-lt4.result c.flag-item.result c.in-len3.len_at_least c.in-len3.len_below c.shape-item-then-arguments-lt4.is c.value-item-then-arguments-lt4.is c.flag-item.is))
    (c.build_three.ensures c.args.span)

pub returns-in_default : goal.returns-in_default
returns-in_default c =
    let made : Checked Query = build_call c.args.span (to_terms c.args.arguments.now) in
    let is : made ≡ refused c.args.span WrongCount = grind (arith, few_for_build, many_for_build) in
    subst (λ (fault : TypeFault). Answers {A = Query} (Err fault) made) (sym c.broken.ensures) is
