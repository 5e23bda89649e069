use Rattle.std.proofs.Common.{◌≡◌, ℕ, true, List, drop, sym, ◌∙◌, subst}
use Rattle.arrayvec.specs.ArrayVec.{ArrayVec}
use Rattle.chunk_cells.specs.Inner.Numbers.{starts_with}
use Rattle.chunk_cells.proofs.MergeLaws.{on_ok}
use Rattle.shape_exec.proofs.PullParts.{number_added, number_there}
use Rattle.shape_exec.proofs.chunk_numbers.push_number.Goals as goal

pub returns-then-stands_at : goal.returns-then-stands_at
returns-then-stands_at c =
    let n = c.chunk_of-number.result in
    let last = c.saturating_sub-last.result in
    let there : starts_with n.items (drop last c.args.found.now) ≡ true = subst (λ (xs : List (ArrayVec ℕ)). starts_with n.items (drop last xs) ≡ true) c.as_slice.ensures (sym c.stands_at.ensures ∙ c.if-stands_at.true) in
    number_there c.args.schema.now.dimensions c.args.at.now.items n last c.args.found.now c.chunk_of-number.ensures there

pub returns : goal.returns
returns c =
    on_ok c.push_core.result c.push_core.ensures
    (λ adds. number_added c.args.schema.now.dimensions c.args.at.now.items c.chunk_of-number.result c.args.found.now c.push_core.new.found c.requires.inside c.chunk_of-number.ensures adds)
