use Rattle.std.proofs.Common.{◌≡◌, IfOk, subst}
use Rattle.version_catalog.specs.declared.rules.catalog.BlobAt.{BlobAt}
use Rattle.version_catalog.specs.declared.rules.catalog_record.CatalogRecord.TheVariants.{First}
use Rattle.version_catalog.proofs.rules.catalog_record.first_copy.Goals as goal

pub returns : goal.returns
returns c = subst (λ (directory : BlobAt). IfOk c.first_record.result (λ entry. entry ≡ First c.args.name.now c.args.schema.now directory)) c.in_ok-copy.ensures c.first_record.ensures
