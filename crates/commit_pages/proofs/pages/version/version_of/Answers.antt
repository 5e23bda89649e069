use Rattle.std.proofs.Common.{ℕ, List, [], ◌∷◌, ◌++◌, Some, ap, ◌∙◌}
use Rattle.chunk_map.specs.declared.directory.Directory.{Directory}
use Rattle.file_meaning.specs.BlobAt.{BlobAt}
use Rattle.page_file.specs.declared.commits.placed.Placed.{Placed}
use Rattle.commit_pages.specs.declared.pages.version.NewVersion.{NewVersion}
use Rattle.commit_pages.specs.Versions.{placed, blob_at, directory_of, directory_bytes, version_in}
use Rattle.commit_pages.proofs.Results.{handed}
use Rattle.commit_pages.proofs.pages.version.version_of.Goals as goal

pub returns-in-Ok : goal.returns-in-Ok
unfolding version_in
returns-in-Ok c =
    let written = c.args.written in
    let own = c.in-Ok.own in
    let blob = placed c.args.pages.now (directory_bytes written c.args.newest.now) in
    let directory = directory_of written c.args.newest.now in
    let version : Placed → Directory → BlobAt → List ℕ → NewVersion = λ blob directory at pages. record { blobs = written.payloads ++ blob ∷ []; directory = Some directory; at = Some at; pages = pages } in
    handed c.joined.result _ _
    (ap (λ (b : Placed). version b own.directory own.at own.pages) c.in-Ok.ensures.blob
    ∙ ap (λ (d : Directory). version blob d own.at own.pages) c.in-Ok.ensures.directory
    ∙ ap (λ (at : BlobAt). version blob directory at own.pages) c.in-Ok.ensures.at
    ∙ ap (version blob directory (blob_at blob)) c.in-Ok.ensures.pages) c.joined.ensures
