use Rattle.std.proofs.Common.{◌∙◌, arith}
use Rattle.file_reading.proofs.TakenLaws.{pages_are}
use Rattle.file_reading.proofs.entries.are_pages.Goals as goal

pub returns : goal.returns
returns c = λ file before has. c.all_pages.ensures ∙ pages_are file c.args.taken.now before c.args.pages.now (λ k low. omega (arith, c.type_inv.pages k)) has
