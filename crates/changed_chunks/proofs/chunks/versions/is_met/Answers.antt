use Rattle.changed_chunks.proofs.Written.{is_met, same_answer}
use Rattle.changed_chunks.proofs.chunks.versions.is_met.Goals as goal

pub returns : goal.returns
returns c = same_answer c.has_row_in.result _ _ (is_met c.args.put.now c.requires.put c.args.number.now.items c.frame-area.result c.frame-area.ensures) c.has_row_in.ensures
