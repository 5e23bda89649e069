use Rattle.std.proofs.Common.{sym, ◌∙◌, subst}
use Rattle.version_catalog.specs.Catalogs.{IsCatalog}
use Rattle.version_catalog.proofs.Kept.{records_keep_catalogs}
use Rattle.file_reading.proofs.base.apply_record.Goals as goal

pub returns-in-Ok-clause-rules : goal.returns-in-Ok-clause-rules
returns-in-Ok-clause-rules c =
    subst IsCatalog (sym c.in-Ok.ensures) (records_keep_catalogs c.args.catalog.now c.args.entry.now c.requires.catalog c.requires.record (sym c.allowed.ensures ∙ c.if-not-allowed.false))
