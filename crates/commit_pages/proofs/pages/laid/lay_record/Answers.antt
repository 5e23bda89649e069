use Rattle.std.proofs.Common.{arith, IfSome, ℕ, ◌≡◌, true, sym, subst, ap}
use Rattle.std.specs.List.{AllByRecursion}
use Rattle.chunk_map.specs.Spelling.{IsDirectory}
use Rattle.file_meaning.specs.Changed.{has_its_directory, IsItsBlob}
use Rattle.page_file.specs.Commits.{commit_pages, IsBlobSized, IsChainSized}
use Rattle.commit_pages.specs.declared.pages.laid.Laid.{Laid}
use Rattle.commit_pages.specs.declared.pages.version.NewVersion.{NewVersion}
use Rattle.commit_pages.specs.Commits.{with_record, record_laid}
use Rattle.commit_pages.proofs.Chains.{version_has_its, record_lies}
use Rattle.commit_pages.specs.Versions.{CanBeListed}
use Rattle.commit_pages.proofs.Rules.{record_spelled}
use Rattle.commit_pages.proofs.Results.{if_ok, handed}
use Rattle.std.proofs.lemmas.Option.{IfSome_then}
use Rattle.commit_pages.proofs.pages.laid.lay_record.Goals as goal

pub with_record-requires-clause-directory : goal.with_record-requires-clause-directory
with_record-requires-clause-directory c =
    subst (λ (version : NewVersion). has_its_directory c.args.change.now version.at ≡ true) (sym c.in-Ok.ensures)
    (version_has_its c.args.change.now c.args.pages.now c.args.written c.args.newest.now c.requires.comes)

pub returns-in-Ok-clause-blobs : goal.returns-in-Ok-clause-blobs
returns-in-Ok-clause-blobs c =
    if_ok (λ (laid : Laid). laid ≡ with_record c.args.catalog.now c.args.catalogue.now c.args.change.now c.in-Ok.version c.args.pages.now) (λ (laid : Laid). AllByRecursion IsBlobSized laid.blobs) c.with_record.result
    (λ laid e.
    (record_lies c.args.catalog.now c.args.catalogue.now c.args.newest.now c.args.change.now c.args.written c.args.pages.now c.in-Ok.version laid c.requires.comes c.requires.written c.requires.pages c.in-Ok.ensures
    e).blobs)
    c.with_record.ensures

pub returns-in-Ok-clause-chain : goal.returns-in-Ok-clause-chain
returns-in-Ok-clause-chain c =
    if_ok (λ (laid : Laid). laid ≡ with_record c.args.catalog.now c.args.catalogue.now c.args.change.now c.in-Ok.version c.args.pages.now) (λ (laid : Laid). IsChainSized laid.chain) c.with_record.result
    (λ laid e.
    (record_lies c.args.catalog.now c.args.catalogue.now c.args.newest.now c.args.change.now c.args.written c.args.pages.now c.in-Ok.version laid c.requires.comes c.requires.written c.requires.pages c.in-Ok.ensures
    e).chain)
    c.with_record.ensures

pub returns-in-Ok-clause-pages : goal.returns-in-Ok-clause-pages
returns-in-Ok-clause-pages c =
    if_ok (λ (laid : Laid). laid ≡ with_record c.args.catalog.now c.args.catalogue.now c.args.change.now c.in-Ok.version c.args.pages.now)
    (λ (laid : Laid). commit_pages laid.blobs laid.chain ≡ c.args.pages.now) c.with_record.result
    (λ laid e.
    (record_lies c.args.catalog.now c.args.catalogue.now c.args.newest.now c.args.change.now c.args.written c.args.pages.now c.in-Ok.version laid c.requires.comes c.requires.written c.requires.pages c.in-Ok.ensures
    e).all)
    c.with_record.ensures

pub returns-in-Ok-clause-at : goal.returns-in-Ok-clause-at
returns-in-Ok-clause-at c =
    if_ok (λ (laid : Laid). laid ≡ with_record c.args.catalog.now c.args.catalogue.now c.args.change.now c.in-Ok.version c.args.pages.now) (λ (laid : Laid). IsItsBlob laid.at) c.with_record.result
    (λ laid e. (record_spelled c.args.catalog.now c.args.catalogue.now c.args.newest.now c.args.change.now c.args.written c.args.pages.now c.in-Ok.version laid c.requires.written c.requires.pages c.requires.few (λ i. omega (arith, c.type_inv.pages i)) c.in-Ok.ensures c.look_at.ensures e).blob)
    c.with_record.ensures

pub returns-in-Ok-clause-rules : goal.returns-in-Ok-clause-rules
returns-in-Ok-clause-rules c =
    if_ok (λ (laid : Laid). laid ≡ with_record c.args.catalog.now c.args.catalogue.now c.args.change.now c.in-Ok.version c.args.pages.now) (λ (laid : Laid). (dims : ℕ) → IsDirectory dims c.args.newest.now → IfSome c.args.written (CanBeListed dims) → IfSome laid.directory (IsDirectory dims)) c.with_record.result
    (λ laid e. (record_spelled c.args.catalog.now c.args.catalogue.now c.args.newest.now c.args.change.now c.args.written c.args.pages.now c.in-Ok.version laid c.requires.written c.requires.pages c.requires.few (λ i. omega (arith, c.type_inv.pages i)) c.in-Ok.ensures c.look_at.ensures e).rules)
    c.with_record.ensures

pub placed_version-requires-clause-written : goal.placed_version-requires-clause-written
placed_version-requires-clause-written c = IfSome_then c.args.written c.requires.written (λ w is. is.rising)

pub with_record-requires-clause-names : goal.with_record-requires-clause-names
with_record-requires-clause-names c = c.requires.names

pub returns-in-Ok-clause-laid : goal.returns-in-Ok-clause-laid
unfolding record_laid
returns-in-Ok-clause-laid c = handed c.with_record.result _ _ (ap (λ (version : NewVersion). with_record c.args.catalog.now c.args.catalogue.now c.args.change.now version c.args.pages.now) c.in-Ok.ensures) c.with_record.ensures
