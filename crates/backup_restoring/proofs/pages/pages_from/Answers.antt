use Rattle.std.proofs.Common.{◌≡◌, ◌+◌, ◌-◌, ℕ, List, [], ◌∷◌, ◌++◌, sym, ◌∙◌, ap, arith}
use Rattle.backup_restoring.specs.Inner.Layout.{pages_from}
use Rattle.backup_restoring.proofs.Laid.{from_push}
use Rattle.backup_restoring.proofs.pages.pages_from.Goals as goal

pub loop-page-preserved : goal.loop-page-preserved
loop-page-preserved c =
    let first = c.args.first in
    let page = c.loop-page.page in
    let low = c.loop-page.auto.page in
    let here : first + (page - first) ≡ page = omega (arith, low) in
    let more : page + 1 - first ≡ page - first + 1 = omega (arith, low) in
    c.in_ok-push.ensures.ok ∙ ap (λ (ps : List ℕ). ps ++ page ∷ []) c.loop-page.invariant ∙ ap (λ (p : ℕ). pages_from first (page - first) ++ p ∷ []) (sym here)
    ∙ sym (from_push first (page - first)) ∙ ap (pages_from first) (sym more)
