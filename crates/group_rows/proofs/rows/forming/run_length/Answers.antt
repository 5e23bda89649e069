use Rattle.std.proofs.Common.{◌≡◌, ◌∙◌, ◌+◌, ℕ, ℤ, [], ◌∷◌, ◌++◌, ap, sym, take}
use Rattle.std.specs.Ordering.{is_eq}
use Rattle.std.proofs.lemmas.List.{take_more}
use Rattle.arrayvec.specs.ArrayVec.{ArrayVec}
use Rattle.array_rows.specs.Rows.{row_major}
use Rattle.group_rows.specs.Sets.{are_at}
use Rattle.group_rows.proofs.TakenLaws.{all_push}
use Rattle.group_rows.proofs.rows.forming.run_length.Goals as goal

pub loop-key-preserved : goal.loop-key-preserved
loop-key-preserved c =
    let keys = c.args.keys.now in
    let k = c.loop-key.key-index in
    let key = c.key-item.result in
    let more : take (k + 1) keys ≡ take k keys ++ key ∷ []
    = take_more keys k key c.loop-key-test.true ∙ ap (λ (z : ArrayVec ℤ). take k keys ++ z ∷ []) (sym c.key-item.is) in
    record {
      count = ap (λ (n : ℕ). n + 1) c.loop-key.invariant.count;
      same = ap (are_at c.args.at.now.items) more
          ∙ all_push (λ (z : ArrayVec ℤ). is_eq (row_major z.items c.args.at.now.items)) (take k keys) key c.loop-key.invariant.same
          (sym c.if-not-is_at.ensures);
    }
