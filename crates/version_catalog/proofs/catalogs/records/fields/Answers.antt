use Rattle.std.proofs.Common.{ℕ, List, refl, sym, subst, arith}
use Rattle.file_items.specs.Items.{IsRead}
use Rattle.file_items.proofs.Puts.{behind_kind}
use Rattle.version_catalog.specs.Table.{record_at}
use Rattle.version_catalog.proofs.catalogs.records.fields.Goals as goal

pub returns-in-len1-up : goal.returns-in-len1-up
returns-in-len1-up c =
    subst (λ (bytes : List ℕ). IsRead (λ x. (x.0, x.1.now)) c.behind.result (record_at bytes)) (sym (behind_kind _ c.args.bytes.now c.in-len1-up.len_at_least refl)) c.behind.ensures

pub bounds-bytes-0 : goal.bounds-bytes-0
bounds-bytes-0 c = omega (arith, c.in-len1-up.len_at_least)
