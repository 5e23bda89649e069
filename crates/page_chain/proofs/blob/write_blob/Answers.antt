use Rattle.std.proofs.Common.{◌≡◌, ℕ, ◌+◌, ◌*◌, List, [], ◌∷◌, length, drop, slice_index, refl, sym, subst, ◌∙◌, arith}
use Rattle.std.proofs.lemmas.Result.{err_from_is_err_and}
use Rattle.std.specs.Prelude.{Result, OnOk}
use Rattle.afl_outside.specs.declared.source.Failed.{Failed}
use Rattle.page_chain.specs.Places.{KeepsPages}
use Rattle.page_chain.specs.Pages.{page_size, page_at, piece_of, HoldsBlob}
use Rattle.page_chain.specs.Inner.Runs.{Sees}
use Rattle.page_chain.proofs.Kept.{size_is, one_of}
use Rattle.page_chain.proofs.RunLemmas.{writes_none, writes_on, writes_more, sees_self, sees_on}
use Rattle.page_chain.proofs.WriteLemmas.{WroteSoFar, wrote_none, wrote_more, wrote_all, wrote_torn, first_rest, next_rest, blob_piece, length-piece}
use Rattle.page_chain.proofs.blob.write_blob.Goals as goal

pub write_page-requires : goal.write_page-requires
write_page-requires g c = omega (arith, size_is)

pub loop-page-init : goal.loop-page-init
loop-page-init g c = record {
  writes = writes_none c.args.pages.now (g.D.Disk.moment c.args.disk.now).state _ _ (g.met.D.Disk.only_now c.args.disk.now);
  seen = sees_self (g.D.Disk.moment c.args.disk.now).state (WroteSoFar c.args.pages.now (piece_of page_size c.args.bytes.now) 0)
      (wrote_none c.args.pages.now (piece_of page_size c.args.bytes.now));
  rest = first_rest page_size c.args.bytes.now;
}

pub returns-in_err-write_page-clause-writes : goal.returns-in_err-write_page-clause-writes
returns-in_err-write_page-clause-writes g c =
    let pages = c.args.pages.now in
    let page = slice_index pages c.loop-page.page-index in
    writes_on pages _ _ _ _ _ _ _ _ _ c.loop-page.invariant.writes
    (writes_more (page ∷ []) pages _ _ _ _ _ _ (λ number none. one_of pages c.loop-page.page-index page number c.loop-page-test.true refl none) c.in_err-write_page.ensures.writes)

pub returns-in_err-write_page-clause-seen : goal.returns-in_err-write_page-clause-seen
returns-in_err-write_page-clause-seen g c =
    let pages = c.args.pages.now in
    let i = c.loop-page.page-index in
    let page = slice_index pages i in
    let pieces : ℕ → List ℕ = λ k. piece_of page_size c.args.bytes.now k in
    let p = err_from_is_err_and c.from_residual.result c.from_residual.ensures.1 in
    subst (λ (r : Result (Unit {0}) Failed). Sees (g.D.Disk.moment c.args.disk.now).state (g.D.Disk.moment c.write_page.new.disk).state (λ seen now. KeepsPages pages seen now × OnOk r (HoldsBlob page_size now pages c.args.bytes.now))) (sym p.1)
    (sees_on (g.D.Disk.moment c.args.disk.now).state (g.D.Disk.moment c.loop-page.disk).state (g.D.Disk.moment c.write_page.new.disk).state
    (WroteSoFar pages pieces i) (λ seen now. KeepsPages (page ∷ []) seen now × Unit {0}) (λ seen now. KeepsPages pages seen now × Unit {0})
    (λ x y z so_far more. (wrote_torn pages pieces i page x y z c.loop-page-test.true refl so_far more.0, tt))
    c.loop-page.invariant.writes.same c.loop-page.invariant.seen c.in_err-write_page.ensures.seen)

pub loop-page-preserved : goal.loop-page-preserved
loop-page-preserved g c =
    let pages = c.args.pages.now in
    let i = c.loop-page.page-index in
    let page = slice_index pages i in
    let pieces : ℕ → List ℕ = λ k. piece_of page_size c.args.bytes.now k in
    let before = c.loop-page.invariant in
    let step = c.in_ok-write_page.ensures in
    let size : length c.loop-page.piece ≡ page_size = c.loop-page-test.array_long ∙ sym size_is in
    record {
      writes = writes_on pages _ _ _ _ _ _ _ _ _ before.writes (writes_more (page ∷ []) pages _ _ _ _ _ _ (λ number none. one_of pages i page number c.loop-page-test.true refl none) step.writes);
      seen = sees_on (g.D.Disk.moment c.args.disk.now).state (g.D.Disk.moment c.loop-page.disk).state (g.D.Disk.moment c.write_page.new.disk).state
          (WroteSoFar pages pieces i) (λ seen now. KeepsPages (page ∷ []) seen now × (page_at page_size now page ≡ c.put_front-rest.new.piece)) (WroteSoFar pages pieces (i + 1))
          (λ x y z so_far more. wrote_more pages pieces i page x y z c.requires.distinct (λ k. length-piece page_size (drop (k * page_size) c.args.bytes.now)) c.loop-page-test.true refl so_far more.0
          (more.1 ∙ blob_piece (length c.loop-page.piece) i c.put_front-rest.new.piece c.loop-page.rest.now c.args.bytes.now size c.put_front-rest.ensures.piece before.rest))
          before.writes.same before.seen step.seen;
      rest = next_rest (length c.loop-page.piece) page_size i c.loop-page.rest.now c.put_front-rest.result.now c.args.bytes.now size c.put_front-rest.ensures.rest before.rest;
    }

pub returns-clause-seen : goal.returns-clause-seen
returns-clause-seen g c =
    wrote_all c.args.pages.now (piece_of page_size c.args.bytes.now) c.loop-page.page-index
    (g.D.Disk.moment c.args.disk.now).state (g.D.Disk.moment c.loop-page.disk).state c.loop-page-test.false c.loop-page.invariant.seen
