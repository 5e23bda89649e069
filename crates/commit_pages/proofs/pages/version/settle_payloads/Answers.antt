use Rattle.std.proofs.Common.{◌∙◌, ap, length}
use Rattle.std.proofs.lemmas.List.{take_at}
use Rattle.commit_pages.specs.Versions.{all_placed}
use Rattle.commit_pages.proofs.Blobs.{length_placed}
use Rattle.commit_pages.proofs.pages.version.settle_payloads.Goals as goal

pub returns-in-Ok : goal.returns-in-Ok
returns-in-Ok c =
    let pages = c.args.pages.now in
    let slice = c.as_mut_slice.result.now in
    c.from_vec.ensures
    ∙ take_at c.settle_all.new.blobs _ c.into_vec-items.result.len (ap length c.in-Ok.ensures ∙ length_placed pages slice ∙ c.as_mut_slice.ensures.len)
    ∙ c.in-Ok.ensures ∙ ap (all_placed pages) (c.as_mut_slice.ensures.value ∙ c.into_vec-items.ensures)
