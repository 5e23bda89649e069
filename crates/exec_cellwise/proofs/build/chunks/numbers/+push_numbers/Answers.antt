use Rattle.std.proofs.Common.{◌≡◌, ◌∙◌, ℕ, List, [], ◌∷◌, ◌++◌, ap}
use Rattle.chunk_cells.specs.Inner.Numbers.{numbers_in}
use Rattle.exec_cellwise.specs.Inner.Walks.{numbers_under}
use Rattle.exec_cellwise.proofs.NumberLists.{grown}
use Rattle.exec_cellwise.proofs.build.chunks.numbers.+push_numbers.Goals as goal

pub push_along-loop-k-preserved : goal.push_along-loop-k-preserved
push_along-loop-k-preserved t c =
    let at = c.args.at.now.items in
    let last = c.args.last.now in
    let k = c.loop-k.k in
    let pushed : c.push.new.self.items ≡ at ++ k ∷ []
    = c.push.ensures.items ∙ ap (λ (l : List ℕ). l ++ k ∷ []) (ap (λ v. v.items) c.copy_numbers-next.ensures) in
    grown (λ (n : ℕ). numbers_under (at ++ n ∷ []) last) k (numbers_in c.args.out.now) (numbers_in c.loop-k.out) (numbers_in c.push_numbers.new.out)
    c.loop-k.invariant (c.in_ok-push_numbers.ensures ∙ ap (λ (l : List ℕ). numbers_in c.loop-k.out ++ numbers_under l last) pushed)
