use Rattle.std.proofs.Common.{◌≡◌, ℕ, ◌+◌, ◌-◌, List, sym, subst, arith}
use Rattle.std.proofs.lemmas.Result.{err_from_is_err_and}
use Rattle.file_items.specs.Items.{repeat}
use Rattle.file_items.proofs.Loop.{behind, one_more, stops_here, all_read}
use Rattle.file_items.specs.Pages.{page_of, seen_nothing}
use Rattle.file_items.proofs.page_lists.reading.pages_from.Goals as goal

pub returns-in_err-page : goal.returns-in_err-page
returns-in_err-page c =
    let p = err_from_is_err_and c.from_residual.result c.from_residual.ensures.1 in
    rw (p.1, p.2) (stops_here page_of seen_nothing tt c.in_err-page.field-0.0 c.loop-index.pages c.args.count c.loop-index._index (c.args.count - c.loop-index._index - 1) c.loop-index.rest.now
    (repeat page_of seen_nothing c.args.count tt c.args.bytes.now) c.loop-index-test.true (omega arith) c.in_err-page.ensures.read c.loop-index.invariant)

pub loop-index-preserved : goal.loop-index-preserved
loop-index-preserved c =
    subst (λ (ps : List ℕ). behind ps (repeat page_of seen_nothing (c.args.count - (c.loop-index._index + 1)) tt c.in_ok-page.after.now) ≡ repeat page_of seen_nothing c.args.count tt c.args.bytes.now) (sym c.in_ok-push.ensures.ok)
    (one_more page_of seen_nothing tt c.loop-index.pages c.args.count c.loop-index._index (c.args.count - c.loop-index._index - 1) c.loop-index.rest.now c.in_ok-page.page c.in_ok-page.after.now
    (repeat page_of seen_nothing c.args.count tt c.args.bytes.now) c.loop-index-test.true (omega arith) c.in_ok-page.ensures.read c.loop-index.invariant)

pub returns : goal.returns
returns c = all_read page_of seen_nothing tt c.loop-index.pages c.args.count c.loop-index._index c.loop-index.rest.now
    (repeat page_of seen_nothing c.args.count tt c.args.bytes.now) c.loop-index-test.false c.loop-index.invariant
