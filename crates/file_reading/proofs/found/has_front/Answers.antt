use Rattle.std.proofs.Common.{ℕ, Bool, List, ◌||◌, sym, ◌∙◌, ap}
use Rattle.version_reaper.specs.PageSets.{is_held}
use Rattle.file_reading.proofs.FrontLaws.{front_in}
use Rattle.file_reading.proofs.found.has_front.Goals as goal

pub returns-else-is_in : goal.returns-else-is_in
returns-else-is_in c =
    let found = c.args.found.now in
    c.any_has_front.ensures ∙ ap (λ (lists : List (List ℕ)). is_held lists 0) c.as_slice.ensures
    ∙ sym (front_in found.chain found.logged 0 ∙ ap (λ (b : Bool). b || is_held found.logged 0) (sym c.is_in.ensures ∙ c.if-is_in.false))
