use Rattle.std.proofs.Common.{◌∙◌, ap}
use Rattle.store_sealing.specs.Inner.Ends.{noted_if}
use Rattle.store_sealing.proofs.SealingSealed.{pinned_behind}
use Rattle.store_sealing.proofs.sealing.sealing.settling.settle.Goals as goal

pub note_if-requires : goal.note_if-requires
note_if-requires c =
    let p = c.args.prepared in
    pinned_behind c.args.ledger.now c.enter-place.new.ledger p.session p.commit.change p.commit.used c.requires.allowed c.enter-place.ensures.ledger

pub returns : goal.returns
returns c =
    let p = c.args.prepared in
    let ledger = c.note_if.ensures ∙ ap (noted_if c.args.rose p.session) c.enter-place.ensures.ledger in
    record {
      place = c.enter-place.ensures.place;
      held = λ i. record {
        ledger = ledger i;
        catalog = c.put_catalog.ensures i;
        rows = c.enter-place.ensures.rows i;
        doubt = c.take.ensures.after i;
        made = c.keep_version.ensures i;
      };
    }
