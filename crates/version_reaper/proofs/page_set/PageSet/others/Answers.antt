use Rattle.std.proofs.Common.{◌∙◌, ap, sym, ◌-◌, ◌++◌, [], ◌∷◌, false, not, slice_index_or, arith}
use Rattle.std.specs.List.{filter}
use Rattle.version_reaper.specs.PageSets.{pages_from}
use Rattle.version_reaper.proofs.Numbers.{passes_next, fails_next, all_seen}
use Rattle.version_reaper.proofs.page_set.PageSet.others.Goals as goal
use Rattle.version_reaper.proofs.page_set.PageSet.others.Goals.{then-not-has+in_ok-push, else-not-has}

pub loop-page-preserved : goal.loop-page-preserved
loop-page-preserved c = elim c.if-not-has.branch [
  | then-not-has+in_ok-push w ↦
      record {
        pages = w.pages-is ∙ w.in_ok-push.ensures.ok ∙ ap (λ ps. ps ++ c.loop-page.page ∷ []) c.loop-page.invariant.pages
            ∙ sym (passes_next (λ page. not (slice_index_or c.args.self.now page false)) c.loop-page.page c.loop-page.auto.page (ap not (sym c.has.ensures ∙ w.if-not-has.true)));
        seen = omega arith;
      }
  | else-not-has w ↦
      record {
        pages = w.pages-is ∙ c.loop-page.invariant.pages
            ∙ sym (fails_next (λ page. not (slice_index_or c.args.self.now page false)) c.loop-page.page c.loop-page.auto.page (ap not (sym c.has.ensures ∙ w.if-not-has.false)));
        seen = omega arith;
      }
]

pub returns : goal.returns
returns c =
    c.loop-page.invariant.pages
    ∙ ap (filter (λ page. not (slice_index_or c.args.self.now page false)))
    (all_seen c.loop-page.page c.limit-limit.result c.loop-page.invariant.seen c.loop-page-test.false ∙ ap (λ n. pages_from 1 (n - 1)) c.limit-limit.ensures)
