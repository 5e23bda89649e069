use Rattle.std.proofs.Common.{◌∙◌, ap, sym}
use Rattle.test_changes.specs.Worked.{written}
use Rattle.test_changes.proofs.Made.{inserted_as, stored_as}
use Rattle.test_changes.proofs.changing.write_none.Goals as goal

pub returns-then-is_inserted : goal.returns-then-is_inserted
returns-then-is_inserted c =
    inserted_as c.in_ok-name.name c.args.name.now c.in_ok-schema.schema c.in_ok-copy.field-0 c.new.result c.literal-plan.result
    c.in_ok-name.ensures c.in_ok-schema.ensures c.in_ok-copy.ensures c.new.ensures c.literal-plan.ensures
    ∙ ap (λ is_inserted. written c.args.name.now is_inserted) (sym c.if-is_inserted.true)

pub returns-else-is_inserted : goal.returns-else-is_inserted
returns-else-is_inserted c =
    stored_as c.in_ok-name.name c.args.name.now c.in_ok-schema.schema c.in_ok-copy.field-0 c.new.result c.literal-plan.result
    c.in_ok-name.ensures c.in_ok-schema.ensures c.in_ok-copy.ensures c.new.ensures c.literal-plan.ensures
    ∙ ap (λ is_inserted. written c.args.name.now is_inserted) (sym c.if-is_inserted.false)
