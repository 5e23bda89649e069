use Rattle.std.proofs.Common.{◌∙◌, ap, sym, ◌+◌, ◌-◌, false, not, length, slice_index_or, arith, length-append}
use Rattle.std.specs.List.{filter}
use Rattle.version_reaper.specs.PageSets.{pages_from}
use Rattle.version_reaper.proofs.Numbers.{passes_next, fails_next, all_seen}
use Rattle.version_reaper.proofs.page_set.free_of.Goals as goal
use Rattle.version_reaper.proofs.page_set.free_of.Goals.{then-not-has, else-not-has}

pub loop-page-preserved : goal.loop-page-preserved
loop-page-preserved c = elim c.if-not-has.branch [
  | then-not-has w ↦ record {
    count = w.count-is ∙ ap (λ n. n + 1) c.loop-page.invariant.count
        ∙ sym (ap length (passes_next (λ page. not (slice_index_or c.args.live.now page false)) c.loop-page.page c.loop-page.auto.page (ap not (sym c.has.ensures ∙ w.if-not-has.true)))
        ∙ length-append _ _);
    within = omega (arith, w.count-is, c.loop-page.invariant.within);
    seen = omega arith;
  }
  | else-not-has w ↦ record {
    count = w.count-is ∙ c.loop-page.invariant.count
        ∙ sym (ap length (fails_next (λ page. not (slice_index_or c.args.live.now page false)) c.loop-page.page c.loop-page.auto.page (ap not (sym c.has.ensures ∙ w.if-not-has.false))));
    within = omega (arith, w.count-is, c.loop-page.invariant.within);
    seen = omega arith;
  }
]

pub returns : goal.returns
returns c =
    c.loop-page.invariant.count
    ∙ ap (λ ps. length (filter (λ page. not (slice_index_or c.args.live.now page false)) ps))
    (all_seen c.loop-page.page c.limit-limit.result c.loop-page.invariant.seen c.loop-page-test.false ∙ ap (λ n. pages_from 1 (n - 1)) c.limit-limit.ensures)
