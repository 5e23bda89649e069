use Rattle.std.proofs.Common.{arith, IfSome, ◌≡◌, List, ℕ, [], ◌∷◌, ◌++◌, true, sym, subst, ap}
use Rattle.std.specs.List.{AllByRecursion}
use Rattle.chunk_map.specs.Spelling.{IsDirectory}
use Rattle.file_meaning.specs.Changed.{has_its_directory, IsItsBlob}
use Rattle.page_file.specs.Commits.{base_pages, IsBlobSized, IsChainSized}
use Rattle.commit_pages.specs.declared.pages.laid.Laid.{Laid}
use Rattle.commit_pages.specs.declared.pages.version.NewVersion.{NewVersion}
use Rattle.commit_pages.specs.Commits.{with_base, base_laid}
use Rattle.commit_pages.proofs.Chains.{version_has_its, base_lies}
use Rattle.commit_pages.specs.Versions.{CanBeListed}
use Rattle.commit_pages.proofs.Rules.{base_spelled}
use Rattle.commit_pages.proofs.Results.{if_ok, handed}
use Rattle.std.proofs.lemmas.Option.{IfSome_then}
use Rattle.commit_pages.proofs.pages.laid.lay_base.Goals as goal

pub with_base-requires-clause-directory : goal.with_base-requires-clause-directory
with_base-requires-clause-directory c =
    subst (λ (version : NewVersion). has_its_directory c.args.change.now version.at ≡ true) (sym c.in-Ok.ensures)
    (version_has_its c.args.change.now c.args.pages.now c.args.written c.args.newest.now c.requires.comes)

pub returns-in-Ok-clause-blobs : goal.returns-in-Ok-clause-blobs
returns-in-Ok-clause-blobs c =
    if_ok (λ (laid : Laid). laid ≡ with_base c.args.catalog.now c.args.change.now c.in-Ok.version c.args.pages.now c.args.log) (λ (laid : Laid). AllByRecursion IsBlobSized laid.blobs) c.with_base.result
    (λ laid e. (base_lies c.args.catalog.now c.args.newest.now c.args.change.now c.args.written c.args.pages.now c.args.log c.in-Ok.version laid c.requires.written c.requires.pages c.in-Ok.ensures e).blobs)
    c.with_base.ensures

pub returns-in-Ok-clause-chain : goal.returns-in-Ok-clause-chain
returns-in-Ok-clause-chain c =
    if_ok (λ (laid : Laid). laid ≡ with_base c.args.catalog.now c.args.change.now c.in-Ok.version c.args.pages.now c.args.log) (λ (laid : Laid). IsChainSized laid.chain) c.with_base.result
    (λ laid e. (base_lies c.args.catalog.now c.args.newest.now c.args.change.now c.args.written c.args.pages.now c.args.log c.in-Ok.version laid c.requires.written c.requires.pages c.in-Ok.ensures e).chain)
    c.with_base.ensures

pub returns-in-Ok-clause-pages : goal.returns-in-Ok-clause-pages
returns-in-Ok-clause-pages c =
    if_ok (λ (laid : Laid). laid ≡ with_base c.args.catalog.now c.args.change.now c.in-Ok.version c.args.pages.now c.args.log)
    (λ (laid : Laid). base_pages laid.blobs laid.chain c.args.log ≡ c.args.pages.now ++ c.args.log ∷ []) c.with_base.result
    (λ laid e. ap (λ (ps : List ℕ). ps ++ c.args.log ∷ [])
    (base_lies c.args.catalog.now c.args.newest.now c.args.change.now c.args.written c.args.pages.now c.args.log c.in-Ok.version laid c.requires.written c.requires.pages c.in-Ok.ensures e).all)
    c.with_base.ensures

pub returns-in-Ok-clause-at : goal.returns-in-Ok-clause-at
returns-in-Ok-clause-at c =
    if_ok (λ (laid : Laid). laid ≡ with_base c.args.catalog.now c.args.change.now c.in-Ok.version c.args.pages.now c.args.log) (λ (laid : Laid). IsItsBlob laid.at) c.with_base.result
    (λ laid e. (base_spelled c.args.catalog.now c.args.newest.now c.args.change.now c.args.written c.args.pages.now c.args.log c.in-Ok.version laid c.requires.written c.requires.pages c.requires.few (λ i. omega (arith, c.type_inv.pages i)) c.in-Ok.ensures c.look_at.ensures e).blob)
    c.with_base.ensures

pub returns-in-Ok-clause-rules : goal.returns-in-Ok-clause-rules
returns-in-Ok-clause-rules c =
    if_ok (λ (laid : Laid). laid ≡ with_base c.args.catalog.now c.args.change.now c.in-Ok.version c.args.pages.now c.args.log) (λ (laid : Laid). (dims : ℕ) → IsDirectory dims c.args.newest.now → IfSome c.args.written (CanBeListed dims) → IfSome laid.directory (IsDirectory dims)) c.with_base.result
    (λ laid e. (base_spelled c.args.catalog.now c.args.newest.now c.args.change.now c.args.written c.args.pages.now c.args.log c.in-Ok.version laid c.requires.written c.requires.pages c.requires.few (λ i. omega (arith, c.type_inv.pages i)) c.in-Ok.ensures c.look_at.ensures e).rules)
    c.with_base.ensures

pub placed_version-requires-clause-written : goal.placed_version-requires-clause-written
placed_version-requires-clause-written c = IfSome_then c.args.written c.requires.written (λ w is. is.rising)

pub with_base-requires-clause-names : goal.with_base-requires-clause-names
with_base-requires-clause-names c = c.requires.names

pub returns-in-Ok-clause-laid : goal.returns-in-Ok-clause-laid
unfolding base_laid
returns-in-Ok-clause-laid c = handed c.with_base.result _ _ (ap (λ (version : NewVersion). with_base c.args.catalog.now c.args.change.now version c.args.pages.now c.args.log) c.in-Ok.ensures) c.with_base.ensures
