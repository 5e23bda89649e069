use Rattle.std.proofs.Common.{◌∙◌, false, arith, slice_index_or}
use Rattle.event_core.specs.declared.state.CorePin.{CorePin}
use Rattle.event_core.specs.Pages.{has_page}
use Rattle.event_core.proofs.Loops.{any_more}
use Rattle.event_core.proofs.reap.add_pins.Goals as goal

pub loop-pin-preserved : goal.loop-pin-preserved
loop-pin-preserved c =
    let l = c.loop-pin in
    record {
      limit = c.add_versions.ensures.limit ∙ l.invariant.limit;
      pages = λ p within. any_more (λ (pin : CorePin). has_page pin.pages p) (slice_index_or c.args.set.now p false) _ _ _ l.pin-index c.pin-item.result
          c.loop-pin-test.true c.pin-item.is (l.invariant.pages p within) (c.add_versions.ensures.pages p (omega (arith, within, l.invariant.limit)));
    }
