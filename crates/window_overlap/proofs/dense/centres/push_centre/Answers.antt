use Rattle.std.proofs.Common.{◌∙◌, sym}
use Rattle.window_overlap.proofs.CentreLaws.{centre_added}
use Rattle.window_overlap.proofs.dense.centres.push_centre.Goals as goal

pub returns-in_ok-push_values-clause-filled : goal.returns-in_ok-push_values-clause-filled
returns-in_ok-push_values-clause-filled c = λ rows is.
    let inside = sym c.is_in_box.ensures ∙ c.if-is_in_box.true in
    centre_added c.args.area.now c.args.reach.now c.args.aggs.now c.args.grid.now c.args.target.now c.args.found.now c.args.one.now c.place-at.result.items c.in_ok-values.values c.as_slice.result.now c.position.result rows c.args.made.now _
    c.place-at.ensures inside c.requires.full (c.requires.held c.place-at.result.items inside) c.position.ensures.value c.as_slice.ensures c.in_ok-values.ensures c.in_ok-push.ensures.ok c.in_ok-push_values.ensures is
