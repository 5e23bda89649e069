use Rattle.std.proofs.Common.{◌≡◌, List, length, Err, inl, inr, sym, subst, arith}
use Rattle.std.proofs.lemmas.Bool.{cases_lt}
use Rattle.schema_grammar.specs.declared.kinds.TypeKind.TheVariants.{WrongCount}
use Rattle.afl_trees.specs.Term.{Term, to_terms}
use Rattle.plan_changes.specs.declared.change.Change.{Change}
use Rattle.check_rules.specs.Checked.{Answers, Checked, refused}
use Rattle.check_rules.specs.declared.rules.fault.TypeFault.{TypeFault}
use Rattle.check_exprs.proofs.Operands.{two}
use Rattle.afl_types.specs.Inner.PuttingStatements.{put_of}
use Rattle.afl_types.proofs.Putting.{of_two, too_few, too_many}
use Rattle.afl_types.proofs.types.statements.statement.put_of.Goals as goal

pub returns-in-len2 : goal.returns-in-len2
returns-in-len2 c =
    subst (λ (xs : List Term). Answers c.put_two.result (put_of c.args.putting c.args.names.now.arrays c.args.span (to_terms xs)))
    (sym (two c.args.arguments.now c.source-item.result c.target-item.result c.in-len2.len_at_least c.in-len2.len_below c.source-item.is c.target-item.is))
    (of_two c.args.names.now.arrays c.args.span c.put_two.result c.source-item.result c.target-item.result c.args.putting c.put_two.ensures)

pub returns-in_default : goal.returns-in_default
returns-in_default c =
    let made : Checked Change = put_of c.args.putting c.args.names.now.arrays c.args.span (to_terms c.args.arguments.now) in
    let is : made ≡ refused c.args.span WrongCount
    = elim (cases_lt (length c.args.arguments.now) 2) [
      | inl few ↦ too_few c.args.names.now.arrays c.args.span c.args.putting c.args.arguments.now few
      | inr some ↦ too_many c.args.names.now.arrays c.args.span c.args.putting c.args.arguments.now (first_of (omega arith, grind arith))
    ] in
    subst (λ (fault : TypeFault). Answers {A = Change} (Err fault) made) (sym c.broken.ensures) is
