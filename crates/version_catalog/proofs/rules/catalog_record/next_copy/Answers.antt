use Rattle.std.proofs.Common.{◌≡◌, IfOk, subst}
use Rattle.version_catalog.specs.declared.rules.catalog.BlobAt.{BlobAt}
use Rattle.version_catalog.specs.declared.rules.catalog_record.CatalogRecord.TheVariants.{Next}
use Rattle.version_catalog.proofs.rules.catalog_record.next_copy.Goals as goal

pub returns : goal.returns
returns c = subst (λ (directory : BlobAt). IfOk c.next_record.result (λ entry. entry ≡ Next c.args.name.now directory)) c.in_ok-copy.ensures c.next_record.ensures
