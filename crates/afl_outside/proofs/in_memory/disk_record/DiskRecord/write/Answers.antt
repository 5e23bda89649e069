use Rattle.std.proofs.Common.{◌≡◌, ℕ, List, sym, ◌∙◌, ap, subst}
use Rattle.afl_outside.specs.Disk.{written}
use Rattle.afl_outside.specs.Images.{content_after}
use Rattle.afl_outside.specs.Inner.Overlay.{Overlaid}
use Rattle.afl_outside.specs.Inner.Records.{Recorded}
use Rattle.afl_outside.specs.Lemmas.ImageLaws.{content_after_push}
use Rattle.afl_outside.specs.declared.in_memory.device_call.DeviceCall.{DeviceCall}
use Rattle.afl_outside.specs.declared.in_memory.device_call.DeviceCall.TheVariants.{Write}
use Rattle.afl_outside.proofs.RecordLemmas.{popped}
use Rattle.afl_outside.proofs.in_memory.disk_record.DiskRecord.write.Goals as goal

pub invariant_of-self-in-Ok : goal.invariant_of-self-in-Ok
invariant_of-self-in-Ok c =
    let inside = c.self.inside in
    let at = c.args.at in
    subst (λ (o : Overlaid). o.content ≡ content_after o.first c.push.new.self) (sym c.in-Ok.ensures.ok)
    (ap (written at c.args.bytes.now) c.self.invariant ∙ ap (λ (l : List ℕ). written at l (content_after inside.bytes.first inside.calls)) (sym c.in_ok-piece.ensures)
    ∙ sym (ap (content_after inside.bytes.first) c.in_ok-push.ensures.ok ∙ content_after_push inside.bytes.first inside.calls (Write at c.in_ok-piece.piece)))

pub invariant_of-self-in-Err : goal.invariant_of-self-in-Err
invariant_of-self-in-Err c =
    let inside = c.self.inside in
    let same : c.pop.new.self ≡ inside.calls = popped inside.calls c.push.new.self c.pop.new.self (Write c.args.at c.in_ok-piece.piece) c.pop.result c.in_ok-push.ensures.ok c.pop.ensures in
    subst (λ (o : Overlaid). o.content ≡ content_after o.first c.pop.new.self) (sym c.in-Err.ensures.err)
    (c.self.invariant ∙ ap (content_after inside.bytes.first) (sym same))

pub returns-in-Err-clause-err : goal.returns-in-Err-clause-err
returns-in-Err-clause-err c =
    let inside = c.self.inside in
    let same : c.pop.new.self ≡ inside.calls = popped inside.calls c.push.new.self c.pop.new.self (Write c.args.at c.in_ok-piece.piece) c.pop.result c.in_ok-push.ensures.ok c.pop.ensures in
    let made : List DeviceCall → Recorded = λ calls. record { first = c.write.new.self.first; calls = calls } in
    let over : Overlaid → Recorded = λ o. record { first = o.first; calls = inside.calls } in
    ap made same ∙ ap over c.in-Err.ensures.err ∙ c.self.view_is
