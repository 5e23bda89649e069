use Rattle.std.proofs.Common.{◌≡◌, ◌<◌, ◌≤◌, ◌+◌, ◌-◌, ℕ, length, drop, subst, arith}
use Rattle.area_cells.specs.Found.{found_rows}
use Rattle.shape_exec.specs.Inner.Unpacked.{IsFirstDoubt}
use Rattle.shape_exec.proofs.NumberedCells.{one_further}
use Rattle.shape_exec.proofs.numbered_cells.first_doubt.Goals as goal

pub doubting-preserved : goal.doubting-preserved
doubting-preserved c =
    let grid = c.args.grid.now in
    let found = c.args.found.now in
    let k : ℕ = c.doubting.k - 1 in
    let some : 0 < c.doubting.k = c.doubting-test.true in
    let within : c.doubting.k ≤ length found = c.doubting.invariant.within in
    let before : c.doubting.k ≡ k + 1 = omega (arith, some) in
    record {
      within = omega (arith, within);
      first =
          one_further grid found k c.index-found-k.result c.doubt_from-broken.result (omega (arith, some, within)) c.index-found-k.is
          (c.doubt_from-broken.ensures k (found_rows grid (drop (k + 1) found)) (subst (λ (n : ℕ). IsFirstDoubt n (found_rows grid (drop n found)) c.doubting.broken) before c.doubting.invariant.first));
    }
