use Rattle.event_core.proofs.state.Core.copy.Goals as goal

pub returns : goal.returns
returns c =
    let core = c.args.self.now in
    λ i. record {
      names = c.in_ok-copy.ensures i;
      pages = c.in_ok-copy-2.ensures i;
      catalogue = c.in_ok-copy-3.ensures i;
      pins = c.in_ok-copy-4.ensures i;
      free = c.in_ok-copy-5.ensures i;
      limit = core.limit;
      entries = core.entries;
    }
