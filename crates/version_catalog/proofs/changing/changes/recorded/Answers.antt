use Rattle.std.proofs.Common.{◌≡◌, IsTrue, IfOk, sym, subst, ◌∙◌}
use Rattle.std.proofs.lemmas.Bool.{and_parts, not-true}
use Rattle.version_catalog.specs.declared.rules.catalog_record.CatalogRecord.{CatalogRecord}
use Rattle.version_catalog.specs.declared.rules.catalog_record.CatalogRecord.TheVariants.{First, Next}
use Rattle.version_catalog.specs.Records.{entries_of, allows, recorded}
use Rattle.version_catalog.proofs.Maps.{all_map}
use Rattle.version_catalog.proofs.changing.changes.recorded.Goals as goal

pub with_first-requires : goal.with_first-requires
with_first-requires c =
    let h : IsTrue (allows (entries_of c.args.arrays) (First c.in-First.name c.in-First.schema c.in-First.directory)) = subst (λ entry. IsTrue (allows (entries_of c.args.arrays) entry)) c.in-First.is c.requires in
    not-true _ (and_parts _ _ h).0

pub with_directory-requires : goal.with_directory-requires
with_directory-requires c =
    let h : IsTrue (allows (entries_of c.args.arrays) (Next c.in-Next.name c.in-Next.directory)) = subst (λ entry. IsTrue (allows (entries_of c.args.arrays) entry)) c.in-Next.is c.requires in
    all_map c.in-Next.name c.args.arrays ∙ (and_parts _ _ h).1

pub returns-in-Create : goal.returns-in-Create
returns-in-Create c = subst (λ (entry : CatalogRecord). IfOk c.with_new.result (λ after. after ≡ recorded c.args.arrays entry)) (sym c.in-Create.is) c.with_new.ensures

pub returns-in-First : goal.returns-in-First
returns-in-First c = subst (λ (entry : CatalogRecord). IfOk c.with_first.result (λ after. after ≡ recorded c.args.arrays entry)) (sym c.in-First.is) c.with_first.ensures

pub returns-in-Next : goal.returns-in-Next
returns-in-Next c = subst (λ (entry : CatalogRecord). IfOk c.with_directory.result (λ after. after ≡ recorded c.args.arrays entry)) (sym c.in-Next.is) c.with_directory.ensures
