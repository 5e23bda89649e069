use Rattle.std.proofs.Common.{◌≡◌, ◌∙◌, List, ℕ, length, Option, Some, IfSome, arith, refl, rules, subst, map, take_all}
use Rattle.std.specs.List.{AllZip}
use Rattle.run_opening.specs.Opened.{IsSinkOf, LeavesUnasked}
use Rattle.run_opening.proofs.OpeningLemmas.{fails_reply, hands_more, hands_some, leaves_all, leaves_more, stops_reply, told_reply, zips_more}
use Rattle.run_opening.proofs.opening.replies.open_replies.Goals as goal

pub loop-place-preserved : goal.loop-place-preserved
loop-place-preserved g c =
    let names = c.args.names.now in
    let i = c.loop-place.place in
    let item = c.index-names-place.result in
    let is = c.index-names-place.is in
    let asked = c.as_str.result.now in
    let start = g.F.Shelf.state c.args.shelf.now in
    let now = g.F.Shelf.state c.loop-place.shelf in
    let next = g.F.Shelf.state c.open_reply.new.shelf in
    let so_far = c.loop-place.invariant in
    let e = c.in-Ok.ensures in
    let told = told_reply names i item asked c.loop-place-test.true is c.as_str.ensures start now next c.requires.apart so_far.told e.others in
    record {
      opened = zips_more names i item asked c.loop-place-test.true is c.as_str.ensures g.F.K.Sink.state (IsSinkOf start) c.loop-place.sinks.items c.push_reserved.new.self.items
          c.in-Ok.sink c.push_reserved.ensures.items
          (record { new = e.new; content = subst (λ (o : Option (List ℕ)). IfSome o (λ bytes. (g.F.K.Sink.state c.in-Ok.sink).first ≡ Some bytes)) told e.content }) so_far.opened;
      told = leaves_more names i item asked c.loop-place-test.true is c.as_str.ensures start now next so_far.told e.others;
      handed = hands_more i start now next so_far.handed e.handed;
      count = search rules;
      room = search rules;
    }

pub returns-in-Err : goal.returns-in-Err
returns-in-Err g c =
    let names = c.args.names.now in
    let i = c.loop-place.place in
    let item = c.index-names-place.result in
    let is = c.index-names-place.is in
    let asked = c.as_str.result.now in
    let start = g.F.Shelf.state c.args.shelf.now in
    let now = g.F.Shelf.state c.loop-place.shelf in
    let next = g.F.Shelf.state c.open_reply.new.shelf in
    let so_far = c.loop-place.invariant in
    let e = c.in-Err.ensures in
    record {
      ok = tt;
      cause = fails_reply names i item asked c.loop-place-test.true is c.as_str.ensures start now next c.requires.apart so_far.told e.others i c.in-Err.notice refl e.cause;
      first = stops_reply names i item asked c.loop-place-test.true is c.as_str.ensures start now next c.requires.apart so_far.told e.others g.F.K.Sink.state c.loop-place.sinks.items
          so_far.opened (λ fits. e.handed ∙ so_far.handed fits) c.in-Err.notice e.cause;
      others = leaves_all names i item asked c.loop-place-test.true is c.as_str.ensures start now next c.requires.apart so_far.told e.others;
      handed = tt;
      some = hands_some i (length names) start next (omega (arith, c.loop-place-test.true)) (λ fits. e.handed ∙ so_far.handed fits);
    }

pub returns-clause-ok : goal.returns-clause-ok
returns-clause-ok g c =
    let names = c.args.names.now in
    subst (λ l. AllZip (IsSinkOf (g.F.Shelf.state c.args.shelf.now)) l (map g.F.K.Sink.state c.loop-place.sinks.items))
    (take_all c.loop-place.place names c.loop-place-test.false) c.loop-place.invariant.opened

pub returns-clause-others : goal.returns-clause-others
returns-clause-others g c =
    let names = c.args.names.now in
    subst (λ l. LeavesUnasked l (g.F.Shelf.state c.args.shelf.now) (g.F.Shelf.state c.loop-place.shelf))
    (take_all c.loop-place.place names c.loop-place-test.false) c.loop-place.invariant.told
