use Rattle.std.proofs.Common.{◌∙◌, sym}
use Rattle.check_cellwise.proofs.Held.{held}
use Rattle.check_cellwise.proofs.boxes.slice.is_held.Goals as goal

pub returns : goal.returns
returns c = c.has_place.ensures ∙ sym (held c.args.place c.args.done.now)
