use Rattle.std.proofs.Common.{◌≡◌, ◌++◌, ◌+◌, ◌∙◌, ap, sym, subst, arith, []}
use Rattle.csv_scripts.specs.declared.batch.Batch.{Batch}
use Rattle.csv_scripts.specs.Batches.{IsOpenLiteral}
use Rattle.csv_scripts.specs.Loads.{IsSpelled}
use Rattle.csv_scripts.specs.Scripts.{part, lead_bytes, stage_bytes}
use Rattle.csv_scripts.proofs.LoaderSteps.{turned}
use Rattle.csv_scripts.proofs.loader.Loader.add.Goals as goal

pub returns-then-branch-2 : goal.returns-then-branch-2
returns-then-branch-2 c from script rows s =
    let plan = c.args.plan.now in
    let batch = c.args.self.now.batch in
    let full = c.replace-full.result in
    let kept : c.push.new.self ≡ batch = c.in_ok-push.ensures.full c.if-branch.false in
    let same : full ≡ batch = c.replace-full.ensures.value ∙ kept in
    let opened : IsOpenLiteral full.text full.count s.waiting = subst (λ (b : Batch). IsOpenLiteral b.text b.count s.waiting) (sym same) s.is_open in
    let bytes : c.in_ok-text.text ≡ lead_bytes plan c.args.self.now.versions ++ stage_bytes plan (part batch.first s.waiting)
    = c.in_ok-text.ensures.text s.waiting opened ∙ ap (λ (b : Batch). lead_bytes plan c.args.self.now.versions ++ stage_bytes plan (part b.first s.waiting)) same in
    let said : IsSpelled (part batch.first s.waiting) = subst (λ (b : Batch). IsSpelled (part b.first s.waiting)) same (c.in_ok-text.ensures.spelled s.waiting opened) in
    let fresh : c.replace-full.new.dest ≡ c.in_ok-empty.empty = c.replace-full.ensures.after in
    let begun : IsOpenLiteral c.replace-full.new.dest.text c.replace-full.new.dest.count [] = subst (λ (b : Batch). IsOpenLiteral b.text b.count []) (sym fresh) c.in_ok-empty.ensures.open in
    let sum : c.in-Some.next ≡ c.push.new.self.first + c.push.new.self.count = omega (arith, c.in-Some.ensures) in
    let next : c.push-2.new.self.first ≡ batch.first + batch.count
    = c.in_ok-push-2.ensures.first ∙ ap (λ (b : Batch). b.first) fresh ∙ c.in_ok-empty.ensures.first ∙ sum ∙ ap (λ (b : Batch). b.first + b.count) kept in
    turned plan from batch.text c.push-2.new.self.text batch.first c.push-2.new.self.first batch.count c.push-2.new.self.count c.args.self.now.versions script c.in_ok-text.text
    rows c.args.values.now s next bytes said (c.in_ok-push-2.ensures.added [] begun c.if-branch-2.true)
