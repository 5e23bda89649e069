use Rattle.std.proofs.Common.{◌≡◌, IfOk, Bool, cond, subst}
use Rattle.version_catalog.specs.declared.rules.catalog_record.CatalogRecord.TheVariants.{First, Next}
use Rattle.version_catalog.proofs.changing.changes.stored.Goals as goal

pub returns-then-has_array : goal.returns-then-has_array
returns-then-has_array c =
    subst (λ (b : Bool). IfOk c.next_record.result (λ entry. entry ≡ cond b (Next c.args.name.now c.args.directory) (First c.args.name.now c.args.schema.now c.args.directory))) c.if-has_array.ensures
    c.next_record.ensures

pub returns-else-has_array : goal.returns-else-has_array
returns-else-has_array c =
    subst (λ (b : Bool). IfOk c.first_record.result (λ entry. entry ≡ cond b (Next c.args.name.now c.args.directory) (First c.args.name.now c.args.schema.now c.args.directory))) c.if-has_array.ensures
    c.first_record.ensures
