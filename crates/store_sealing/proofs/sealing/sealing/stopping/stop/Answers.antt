use Rattle.std.proofs.Common.{◌∙◌, ap}
use Rattle.store_sealing.specs.Steps.{doubt_after}
use Rattle.store_sealing.proofs.sealing.sealing.stopping.stop.Goals as goal

pub returns : goal.returns
returns c = record {
  doubt = c.put_doubt.ensures ∙ ap (doubt_after c.args.stage c.args.doubt.now) c.change_of.ensures;
  ledger = c.note_if.ensures;
}
