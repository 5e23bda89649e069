use Rattle.std.proofs.Common.{◌∙◌, ◌&&◌, nat_eq, sym}
use Rattle.event_core.specs.History.{is_pages_of}
use Rattle.event_core.specs.declared.state.VersionPages.{VersionPages}
use Rattle.store_versions.proofs.Standing.{standing_passed, standing_pushed}
use Rattle.store_versions.proofs.lean.lean.rows.standing_pages.Goals as goal
use Rattle.store_versions.proofs.lean.lean.rows.standing_pages.Goals.{then-stands_as+in_ok-copy+in_ok-push, else-stands_as}

pub loop-row-preserved : goal.loop-row-preserved
loop-row-preserved c =
    let test = λ (v : VersionPages). is_pages_of c.args.name.now v && nat_eq v.version c.args.number in
    let l = c.loop-row in
    let row = c.row-item.result in
    elim c.if-stands_as.branch [
      | then-stands_as+in_ok-copy+in_ok-push w ↦
          standing_pushed test c.args.rows.now l.row-index row c.loop-row-test.true c.row-item.is l.pages c.if-stands_as.pages _ l.invariant
          (sym c.stands_as.ensures ∙ w.if-stands_as.true) w.in_ok-copy.ensures (w.pages-is ∙ w.in_ok-push.ensures.ok)
      | else-stands_as w ↦
          w.pages-is
          ∙ standing_passed test c.args.rows.now l.row-index row c.loop-row-test.true c.row-item.is l.pages l.invariant
          (sym c.stands_as.ensures ∙ w.if-stands_as.false)
    ]
