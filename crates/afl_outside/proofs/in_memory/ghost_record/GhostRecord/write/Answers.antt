use Rattle.std.proofs.Common.{◌≡◌, ℕ, List, sym, ◌∙◌, ap, subst}
use Rattle.afl_outside.specs.Disk.{written}
use Rattle.afl_outside.specs.Images.{content_after}
use Rattle.afl_outside.specs.Inner.Overlay.{Overlaid}
use Rattle.afl_outside.specs.Lemmas.ImageLaws.{content_after_push}
use Rattle.afl_outside.specs.declared.in_memory.device_call.DeviceCall.TheVariants.{Write}
use Rattle.afl_outside.proofs.in_memory.ghost_record.GhostRecord.write.Goals as goal

pub invariant_of-self-2 : goal.invariant_of-self-2
invariant_of-self-2 c =
    let inside = c.self.inside in
    let at = c.args.at in
    subst (λ (o : Overlaid). o.content ≡ content_after o.first c.push.new.self) (sym c.in_ok-write.ensures.ok)
    (ap (written at c.args.bytes.now) c.self.invariant ∙ ap (λ (l : List ℕ). written at l (content_after inside.bytes.first inside.calls)) (sym c.in_ok-piece.ensures)
    ∙ sym (ap (content_after inside.bytes.first) c.push.ensures ∙ content_after_push inside.bytes.first inside.calls (Write at c.in_ok-piece.piece)))
