use Rattle.std.proofs.Common.{ℕ, List, ap, ◌∙◌}
use Rattle.arrayvec.specs.ArrayVec.{ArrayVec}
use Rattle.array_rows.specs.Boxes.{by_pairs}
use Rattle.page_file.specs.declared.commits.placed.Placed.{Placed}
use Rattle.commit_pages.specs.Versions.{entry_of}
use Rattle.commit_pages.proofs.Results.{handed}
use Rattle.commit_pages.proofs.pages.version.written_entries.Goals as goal

pub returns : goal.returns
returns c =
    let entry = entry_of c.args.written.now.birth in
    handed c.entries.result _ _
    (ap (λ (numbers : List (ArrayVec ℕ)). by_pairs entry numbers c.as_slice.result.now) c.as_slice-numbers.ensures ∙ ap (λ (payloads : List Placed). by_pairs entry c.args.written.now.numbers payloads) c.as_slice.ensures)
    c.entries.ensures
