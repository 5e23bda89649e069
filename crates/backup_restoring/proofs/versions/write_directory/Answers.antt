use Rattle.std.proofs.Common.{◌≡◌, ◌+◌, ℕ, List, length, ◌∙◌, ap, arith}
use Rattle.file_items.specs.Pages.{pages_needed}
use Rattle.backup_restoring.proofs.Laid.{length_from}
use Rattle.backup_restoring.proofs.versions.write_directory.Goals as goal

pub overflow_cast-next : goal.overflow_cast-next
overflow_cast-next g c =
    let long : c.len.result ≡ pages_needed (length c.args.bytes.now) = c.len.ensures ∙ ap (λ (ps : List ℕ). length ps) c.in-Ok.ensures.pages ∙ length_from c.args.first (pages_needed (length c.args.bytes.now)) in
    omega (arith, long, c.requires.room)

pub overflow_add-next : goal.overflow_add-next
overflow_add-next g c =
    let long : c.len.result ≡ pages_needed (length c.args.bytes.now) = c.len.ensures ∙ ap (λ (ps : List ℕ). length ps) c.in-Ok.ensures.pages ∙ length_from c.args.first (pages_needed (length c.args.bytes.now)) in
    omega (arith, long, c.requires.room)

pub returns-in-Ok-clause-next : goal.returns-in-Ok-clause-next
returns-in-Ok-clause-next g c =
    ap (λ (n : ℕ). c.args.first + n) (c.len.ensures ∙ ap (λ (ps : List ℕ). length ps) c.in-Ok.ensures.pages ∙ length_from c.args.first (pages_needed (length c.args.bytes.now)))
