use Rattle.std.proofs.Common.{◌≡◌, ◌+◌, ◌∙◌, [], ◌∷◌, ◌++◌, length, ap, sym, subst, arith}
use Rattle.std.proofs.lemmas.List.{length-append}
use Rattle.csv.specs.Records.{fields_of}
use Rattle.csv_scripts.specs.Records.{HaveColumnValues, HasColumnValue}
use Rattle.csv_scripts.proofs.RecordGrows.{said_more}
use Rattle.csv_scripts.proofs.loading.values_of.Goals as goal

pub loop-at-preserved : goal.loop-at-preserved
loop-at-preserved c =
    let Says = HasColumnValue c.args.plan.now c.args.options.is_bare c.args.options.null.now (fields_of c.args.row.now) c.args.places.now in
    let grown : c.push.new.self ≡ c.loop-at.values ++ c.in_ok-value.value ∷ [] = c.in_ok-push.ensures.ok in
    let more : HaveColumnValues Says 0 (c.loop-at.values ++ c.in_ok-value.value ∷ [])
    = said_more Says 0 c.loop-at.at c.loop-at.values c.in_ok-value.value c.loop-at.invariant.0 (omega (arith, c.loop-at.invariant.1)) c.in_ok-value.ensures in
    (subst (HaveColumnValues Says 0) (sym grown) more, ap length grown ∙ length-append c.loop-at.values (c.in_ok-value.value ∷ []) ∙ ap (λ n. n + 1) c.loop-at.invariant.1)
