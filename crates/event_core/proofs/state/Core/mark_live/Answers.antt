use Rattle.std.proofs.Common.{◌≡◌, ◌∙◌, ap, false, ◌||◌, nat_eq, arith, length, slice_index_or}
use Rattle.std.specs.List.{list_any}
use Rattle.version_reaper.specs.PageSets.{holds}
use Rattle.event_core.specs.Pages.{has_page}
use Rattle.event_core.proofs.Tests.{eq_sym}
use Rattle.event_core.proofs.Marking.{marked}
use Rattle.event_core.proofs.state.Core.mark_live.Goals as goal

pub returns-clause-pages : goal.returns-clause-pages
returns-clause-pages c p h =
    let one : length c.add.new.self ≡ length c.args.set.now = c.add.ensures.limit in
    let two : length c.add_all.new.self ≡ length c.args.set.now = c.add_all.ensures.limit ∙ one in
    let three : length c.add_versions.new.set ≡ length c.args.set.now = c.add_versions.ensures.limit ∙ two in
    c.add_pins.ensures.pages p (omega (arith, h, three))
    ∙ ap (λ b. b || list_any (λ pin. has_page pin.pages p) c.args.self.now.pins)
    (c.add_versions.ensures.pages p (omega (arith, h, two))
    ∙ ap (λ b. b || has_page c.args.self.now.pages p)
    (c.add_all.ensures.pages p (omega (arith, h, one))
    ∙ ap (λ b. b || holds c.args.self.now.catalogue p) (c.add.ensures.pages p h)))
    ∙ marked (slice_index_or c.args.set.now p false) (nat_eq 0 p) (nat_eq p 0) (holds c.args.self.now.catalogue p) (has_page c.args.self.now.pages p) (list_any (λ pin. has_page pin.pages p) c.args.self.now.pins) (eq_sym 0 p)
