use Rattle.std.proofs.Common.{◌≡◌, ◌∙◌, List, ℕ, Option, Some, IfSome, refl, rules, subst, map, take_all}
use Rattle.std.specs.List.{AllZip}
use Rattle.run_opening.specs.Opened.{IsSourceOf, LeavesUnasked}
use Rattle.run_opening.proofs.OpeningLemmas.{fails_script, leaves_all, leaves_more, stops_script, told_script, zips_more}
use Rattle.run_opening.proofs.opening.scripts.open_scripts.Goals as goal

pub loop-place-preserved : goal.loop-place-preserved
loop-place-preserved g c =
    let names = c.args.scripts.now in
    let i = c.loop-place.place in
    let item = c.index-scripts-place.result in
    let is = c.index-scripts-place.is in
    let asked = c.as_str.result.now in
    let start = g.F.Shelf.state c.args.shelf.now in
    let now = g.F.Shelf.state c.loop-place.shelf in
    let next = g.F.Shelf.state c.open_script.new.shelf in
    let so_far = c.loop-place.invariant in
    let e = c.in-Ok.ensures in
    let told = told_script names i item asked c.loop-place-test.true is c.as_str.ensures start now next c.requires.apart so_far.told e.others in
    record {
      opened = zips_more names i item asked c.loop-place-test.true is c.as_str.ensures g.F.S.Source.state (IsSourceOf start) c.loop-place.sources.items c.push_reserved.new.self.items
          c.in-Ok.source c.push_reserved.ensures.items
          (record { new = e.new; content = subst (λ (o : Option (List ℕ)). IfSome o (λ bytes. (g.F.S.Source.state c.in-Ok.source).first ≡ Some bytes)) told e.content }) so_far.opened;
      told = leaves_more names i item asked c.loop-place-test.true is c.as_str.ensures start now next so_far.told e.others;
      replies = λ n. e.replies n ∙ so_far.replies n;
      handed = e.handed ∙ so_far.handed;
      count = search rules;
      room = search rules;
    }

pub returns-in-Err : goal.returns-in-Err
returns-in-Err g c =
    let names = c.args.scripts.now in
    let i = c.loop-place.place in
    let item = c.index-scripts-place.result in
    let is = c.index-scripts-place.is in
    let asked = c.as_str.result.now in
    let start = g.F.Shelf.state c.args.shelf.now in
    let now = g.F.Shelf.state c.loop-place.shelf in
    let next = g.F.Shelf.state c.open_script.new.shelf in
    let so_far = c.loop-place.invariant in
    let e = c.in-Err.ensures in
    record {
      ok = tt;
      cause = fails_script names i item asked c.loop-place-test.true is c.as_str.ensures start now next c.requires.apart so_far.told e.others i c.in-Err.notice refl e.cause;
      first = stops_script names i item asked c.loop-place-test.true is c.as_str.ensures start now next c.requires.apart so_far.told e.others g.F.S.Source.state c.loop-place.sources.items
          so_far.opened (λ n. e.replies n ∙ so_far.replies n) (e.handed ∙ so_far.handed) c.in-Err.notice e.cause;
      others = leaves_all names i item asked c.loop-place-test.true is c.as_str.ensures start now next c.requires.apart so_far.told e.others;
      replies = λ n. e.replies n ∙ so_far.replies n;
      handed = e.handed ∙ so_far.handed;
    }

pub returns-clause-ok : goal.returns-clause-ok
returns-clause-ok g c =
    let names = c.args.scripts.now in
    subst (λ l. AllZip (IsSourceOf (g.F.Shelf.state c.args.shelf.now)) l (map g.F.S.Source.state c.loop-place.sources.items))
    (take_all c.loop-place.place names c.loop-place-test.false) c.loop-place.invariant.opened

pub returns-clause-others : goal.returns-clause-others
returns-clause-others g c =
    let names = c.args.scripts.now in
    subst (λ l. LeavesUnasked l (g.F.Shelf.state c.args.shelf.now) (g.F.Shelf.state c.loop-place.shelf))
    (take_all c.loop-place.place names c.loop-place-test.false) c.loop-place.invariant.told
