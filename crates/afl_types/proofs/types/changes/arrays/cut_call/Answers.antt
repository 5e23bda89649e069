use Rattle.std.proofs.Common.{◌≡◌, List, length, Err, inl, inr, sym, subst, arith}
use Rattle.std.proofs.lemmas.Bool.{cases_lt}
use Rattle.schema_grammar.specs.declared.kinds.TypeKind.TheVariants.{WrongCount}
use Rattle.afl_trees.specs.Term.{Term, to_terms}
use Rattle.plan_changes.specs.declared.change.Change.{Change}
use Rattle.check_rules.specs.Checked.{Answers, Checked, refused}
use Rattle.check_rules.specs.declared.rules.fault.TypeFault.{TypeFault}
use Rattle.check_exprs.proofs.Operands.{two}
use Rattle.afl_types.specs.Changes.{cut_call}
use Rattle.afl_types.proofs.Arguments.{few_for_cut, many_for_cut}
use Rattle.afl_types.proofs.types.changes.arrays.cut_call.Goals as goal

pub returns-in-len2 : goal.returns-in-len2
returns-in-len2 c =
    subst (λ (xs : List Term). Answers c.cut_from.result (cut_call c.args.arrays.now c.args.span (to_terms xs)))
    (sym (two c.args.arguments.now c.array-item.result c.number-item.result c.in-len2.len_at_least c.in-len2.len_below c.array-item.is c.number-item.is))
    c.cut_from.ensures

pub returns-in_default : goal.returns-in_default
returns-in_default c =
    let made : Checked Change = cut_call c.args.arrays.now c.args.span (to_terms c.args.arguments.now) in
    let is : made ≡ refused c.args.span WrongCount
    = elim (cases_lt (length c.args.arguments.now) 2) [
      | inl few ↦ few_for_cut c.args.arrays.now c.args.span c.args.arguments.now few
      | inr some ↦ many_for_cut c.args.arrays.now c.args.span c.args.arguments.now (first_of (omega arith, grind arith))
    ] in
    subst (λ (fault : TypeFault). Answers {A = Change} (Err fault) made) (sym c.broken.ensures) is
