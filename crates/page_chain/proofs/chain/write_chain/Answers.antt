use Rattle.std.proofs.Common.{◌≡◌, ℕ, ◌+◌, ◌-◌, List, [], ◌∷◌, length, slice_index, refl, sym, subst, ◌∙◌, ap, arith}
use Rattle.std.proofs.lemmas.Result.{err_from_is_err_and}
use Rattle.std.specs.Prelude.{Result, OnOk}
use Rattle.afl_outside.specs.declared.source.Failed.{Failed}
use Rattle.page_chain.specs.Places.{KeepsPages}
use Rattle.page_chain.specs.Pages.{page_size, page_at}
use Rattle.page_chain.specs.Chains.{content_size, chain_piece, HoldsChain}
use Rattle.page_chain.specs.Inner.Runs.{Sees}
use Rattle.page_chain.proofs.Kept.{size_is, one_of}
use Rattle.page_chain.proofs.RunLemmas.{writes_none, writes_on, writes_more, sees_self, sees_on}
use Rattle.page_chain.proofs.WriteLemmas.{WroteSoFar, wrote_none, wrote_more, wrote_all, wrote_torn, first_rest, next_rest, chain_piece_is, length-chain_piece}
use Rattle.page_chain.proofs.chain.write_chain.Goals as goal

pub write_page-requires : goal.write_page-requires
write_page-requires g c = omega (arith, size_is)

pub loop-i-init : goal.loop-i-init
loop-i-init g c = record {
  writes = writes_none c.args.pages.now (g.D.Disk.moment c.args.disk.now).state _ _ (g.met.D.Disk.only_now c.args.disk.now);
  seen = sees_self (g.D.Disk.moment c.args.disk.now).state (WroteSoFar c.args.pages.now (chain_piece page_size c.args.pages.now c.args.bytes.now) 0)
      (wrote_none c.args.pages.now (chain_piece page_size c.args.pages.now c.args.bytes.now));
  rest = first_rest (content_size page_size) c.args.bytes.now;
}

pub returns-in_err-write_page-clause-writes : goal.returns-in_err-write_page-clause-writes
returns-in_err-write_page-clause-writes g c =
    let pages = c.args.pages.now in
    let page = slice_index pages c.loop-i.i in
    writes_on pages _ _ _ _ _ _ _ _ _ c.loop-i.invariant.writes
    (writes_more (page ∷ []) pages _ _ _ _ _ _ (λ number none. one_of pages c.loop-i.i page number c.loop-i-test.true refl none) c.in_err-write_page.ensures.writes)

pub returns-in_err-write_page-clause-seen : goal.returns-in_err-write_page-clause-seen
returns-in_err-write_page-clause-seen g c =
    let pages = c.args.pages.now in
    let i = c.loop-i.i in
    let page = slice_index pages i in
    let pieces : ℕ → List ℕ = λ k. chain_piece page_size pages c.args.bytes.now k in
    let p = err_from_is_err_and c.from_residual.result c.from_residual.ensures.1 in
    subst (λ (r : Result (Unit {0}) Failed). Sees (g.D.Disk.moment c.args.disk.now).state (g.D.Disk.moment c.write_page.new.disk).state (λ seen now. KeepsPages pages seen now × OnOk r (HoldsChain page_size now pages c.args.bytes.now))) (sym p.1)
    (sees_on (g.D.Disk.moment c.args.disk.now).state (g.D.Disk.moment c.loop-i.disk).state (g.D.Disk.moment c.write_page.new.disk).state
    (WroteSoFar pages pieces i) (λ seen now. KeepsPages (page ∷ []) seen now × Unit {0}) (λ seen now. KeepsPages pages seen now × Unit {0})
    (λ x y z so_far more. (wrote_torn pages pieces i page x y z c.loop-i-test.true refl so_far more.0, tt))
    c.loop-i.invariant.writes.same c.loop-i.invariant.seen c.in_err-write_page.ensures.seen)

pub loop-i-preserved : goal.loop-i-preserved
loop-i-preserved g c =
    let pages = c.args.pages.now in
    let i = c.loop-i.i in
    let page = slice_index pages i in
    let pieces : ℕ → List ℕ = λ k. chain_piece page_size pages c.args.bytes.now k in
    let before = c.loop-i.invariant in
    let step = c.in_ok-write_page.ensures in
    let size : length c.loop-i.piece ≡ page_size = c.loop-i-test.array_long ∙ sym size_is in
    record {
      writes = writes_on pages _ _ _ _ _ _ _ _ _ before.writes (writes_more (page ∷ []) pages _ _ _ _ _ _ (λ number none. one_of pages i page number c.loop-i-test.true refl none) step.writes);
      seen = sees_on (g.D.Disk.moment c.args.disk.now).state (g.D.Disk.moment c.loop-i.disk).state (g.D.Disk.moment c.write_page.new.disk).state
          (WroteSoFar pages pieces i) (λ seen now. KeepsPages (page ∷ []) seen now × (page_at page_size now page ≡ c.put_linked-rest.new.piece)) (WroteSoFar pages pieces (i + 1))
          (λ x y z so_far more. wrote_more pages pieces i page x y z c.requires.distinct (length-chain_piece pages c.args.bytes.now) c.loop-i-test.true refl so_far more.0
          (more.1 ∙ chain_piece_is (length c.loop-i.piece) i c.page_after.result c.put_linked-rest.new.piece c.loop-i.rest.now pages c.args.bytes.now size c.page_after.ensures c.put_linked-rest.ensures.piece before.rest))
          before.writes.same before.seen step.seen;
      rest = next_rest (length c.loop-i.piece - 4) (content_size page_size) i c.loop-i.rest.now c.put_linked-rest.result.now c.args.bytes.now (ap (λ (n : ℕ). n - 4) size) c.put_linked-rest.ensures.rest before.rest;
    }

pub returns-clause-seen : goal.returns-clause-seen
returns-clause-seen g c =
    wrote_all c.args.pages.now (chain_piece page_size c.args.pages.now c.args.bytes.now) c.loop-i.i
    (g.D.Disk.moment c.args.disk.now).state (g.D.Disk.moment c.loop-i.disk).state c.loop-i-test.false c.loop-i.invariant.seen
