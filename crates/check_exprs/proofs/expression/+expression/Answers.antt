use Rattle.std.proofs.Common.{◌≡◌, length, List, None, Some, Err, sym, subst, arith}
use Rattle.check_rules.specs.Term.{Term, to_terms}
use Rattle.check_rules.specs.Checked.{Answers, Checked, refused}
use Rattle.check_exprs.specs.Expressions.{typed_call}
use Rattle.check_rules.specs.declared.rules.operator.Form.TheVariants.{Iif, One}
use Rattle.schema_grammar.specs.declared.kinds.TypeKind.TheVariants.{WrongCount}
use Rattle.check_rules.specs.declared.rules.fault.TypeFault.{TypeFault}
use Rattle.check_exprs.specs.declared.operand.Operand.{Operand}
use Rattle.check_exprs.proofs.Operands.{one, three, other_for_iif, other_for_one}
use Rattle.check_exprs.proofs.expression.+expression.Goals as goal

pub typed_iif-returns-in-len3 : goal.typed_iif-returns-in-len3
typed_iif-returns-in-len3 t c =
    subst (λ (xs : List Term). Answers c.typed_choice.result (typed_call c.args.attributes.now c.args.dimensions.now c.args.span c.args.name.now None (Some Iif) (to_terms xs)))
    (sym (three c.args.operands.now c.test-item.result c.a-item.result c.b-item.result c.in-len3.len_at_least c.in-len3.len_below c.test-item.is c.a-item.is c.b-item.is))
    c.typed_choice.ensures

pub typed_iif-returns-in_default : goal.typed_iif-returns-in_default
typed_iif-returns-in_default t c =
    let made : Checked Operand = typed_call c.args.attributes.now c.args.dimensions.now c.args.span c.args.name.now None (Some Iif) (to_terms c.args.operands.now) in
    let other : length c.args.operands.now ≡ 3 → ⊥ = λ e. grind arith in
    let is : made ≡ refused c.args.span WrongCount = other_for_iif c.args.attributes.now c.args.dimensions.now c.args.span c.args.name.now c.args.operands.now other in
    subst (λ (fault : TypeFault). Answers {A = Operand} (Err fault) made) (sym c.broken.ensures) is

pub typed_one-returns-in-len1 : goal.typed_one-returns-in-len1
typed_one-returns-in-len1 t c =
    subst (λ (xs : List Term). Answers c.typed_operand.result (typed_call c.args.attributes.now c.args.dimensions.now c.args.span c.args.name.now None (Some (One c.args.form)) (to_terms xs)))
    (sym (one c.args.operands.now c.a-item.result c.in-len1.len_at_least c.in-len1.len_below c.a-item.is))
    c.typed_operand.ensures

pub typed_one-returns-in_default : goal.typed_one-returns-in_default
typed_one-returns-in_default t c =
    let made : Checked Operand = typed_call c.args.attributes.now c.args.dimensions.now c.args.span c.args.name.now None (Some (One c.args.form)) (to_terms c.args.operands.now) in
    let other : length c.args.operands.now ≡ 1 → ⊥ = λ e. grind arith in
    let is : made ≡ refused c.args.span WrongCount = other_for_one c.args.attributes.now c.args.dimensions.now c.args.span c.args.name.now c.args.form c.args.operands.now other in
    subst (λ (fault : TypeFault). Answers {A = Operand} (Err fault) made) (sym c.broken.ensures) is

pub typed_minus-typed-requires : goal.typed_minus-typed-requires
typed_minus-typed-requires t c = (omega arith, (c.requires.attributes, c.requires.dimensions))

pub typed_not-typed-requires : goal.typed_not-typed-requires
typed_not-typed-requires t c = (omega arith, (c.requires.attributes, c.requires.dimensions))

pub typed_group-typed-requires : goal.typed_group-typed-requires
typed_group-typed-requires t c = (omega arith, (c.requires.attributes, c.requires.dimensions))

pub typed_operand-typed-requires : goal.typed_operand-typed-requires
typed_operand-typed-requires t c = (omega arith, (c.requires.attributes, c.requires.dimensions))

pub typed_binary-typed-requires : goal.typed_binary-typed-requires
typed_binary-typed-requires t c = (omega arith, (c.requires.attributes, c.requires.dimensions))

pub typed_binary-typed-requires-2 : goal.typed_binary-typed-requires-2
typed_binary-typed-requires-2 t c = (omega arith, (c.requires.attributes, c.requires.dimensions))

pub typed_choice-typed-requires : goal.typed_choice-typed-requires
typed_choice-typed-requires t c = (omega arith, (c.requires.attributes, c.requires.dimensions))

pub typed_choice-typed-requires-2 : goal.typed_choice-typed-requires-2
typed_choice-typed-requires-2 t c = (omega arith, (c.requires.attributes, c.requires.dimensions))

pub typed_choice-typed-requires-in-Ok : goal.typed_choice-typed-requires-in-Ok
typed_choice-typed-requires-in-Ok t c = (omega arith, (c.requires.attributes, c.requires.dimensions))
