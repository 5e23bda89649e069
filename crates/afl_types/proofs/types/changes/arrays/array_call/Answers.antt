use Rattle.std.proofs.Common.{◌≡◌, ℕ, List, Err, sym, subst, arith}
use Rattle.schema_grammar.specs.declared.kinds.TypeKind.TheVariants.{WrongCount}
use Rattle.afl_trees.specs.Term.{Term, to_terms}
use Rattle.check_rules.specs.Checked.{Answers, Checked, refused}
use Rattle.check_rules.specs.declared.rules.fault.TypeFault.{TypeFault}
use Rattle.check_exprs.proofs.Operands.{one}
use Rattle.afl_types.specs.Changes.{array_call}
use Rattle.afl_types.proofs.Arguments.{few_for_array, many_for_array}
use Rattle.afl_types.proofs.types.changes.arrays.array_call.Goals as goal

pub returns-in-len1 : goal.returns-in-len1
returns-in-len1 c =
    subst (λ (xs : List Term). Answers c.stored_name.result (array_call c.args.arrays.now c.args.span (to_terms xs)))
    (sym (one c.args.arguments.now c.array-item.result c.in-len1.len_at_least c.in-len1.len_below c.array-item.is))
    c.stored_name.ensures

pub returns-in_default : goal.returns-in_default
returns-in_default c =
    let made : Checked (List ℕ) = array_call c.args.arrays.now c.args.span (to_terms c.args.arguments.now) in
    let is : made ≡ refused c.args.span WrongCount = grind (arith, few_for_array, many_for_array) in
    subst (λ (fault : TypeFault). Answers {A = List ℕ} (Err fault) made) (sym c.broken.ensures) is
