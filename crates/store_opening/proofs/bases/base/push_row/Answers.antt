use Rattle.std.proofs.Common.{◌∙◌, ◌++◌, List, ap}
use Rattle.chunk_map.specs.declared.directory.Directory.{Directory}
use Rattle.store_opening.specs.Bases.{array_pages}
use Rattle.store_opening.proofs.PairLaws.{first_lists, no_lists}
use Rattle.store_opening.proofs.bases.base.push_row.Goals as goal

pub returns-in-Ok : goal.returns-in-Ok
returns-in-Ok c = λ arrays. first_lists array_pages c.args.array.now arrays c.in-Some.row.now c.in-Some.rest.now c.args.left.now c.args.versions.now c.push_array.new.versions c.in-Some.ensures.cases.0
    (c.in-Ok.ensures ∙ ap (λ (row : List Directory). c.args.versions.now ++ array_pages c.args.array.now row) c.as_slice.ensures)

pub returns-in-None : goal.returns-in-None
returns-in-None c = λ arrays. no_lists array_pages c.args.array.now arrays c.args.left.now c.args.versions.now c.in-None.ensures.cases
