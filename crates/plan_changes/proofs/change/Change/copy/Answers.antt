use Rattle.std.proofs.Common.{ap, sym, ◌∙◌}
use Rattle.plan_changes.specs.declared.change.Change.TheVariants.{Create, Store, Insert, Remove, RemoveVersions}
use Rattle.plan_changes.proofs.change.Change.copy.Goals as goal

pub returns-in_ok-copy-in-Create-2 : goal.returns-in_ok-copy-in-Create-2
returns-in_ok-copy-in-Create-2 c =
    ap (λ n. Create n c.in_ok-copy-in-Create-2.field-0) c.in_ok-copy-in-Create.ensures
    ∙ ap (λ s. Create c.in-Create.name s) c.in_ok-copy-in-Create-2.ensures
    ∙ sym c.in-Create.is

pub returns-in_ok-copy-in-Store-3 : goal.returns-in_ok-copy-in-Store-3
returns-in_ok-copy-in-Store-3 c =
    let schema = c.in_ok-copy-in-Store-2.field-0 in
    let plan = c.in_ok-copy-in-Store-3.field-0 in
    ap (λ n. Store n schema plan) c.in_ok-copy-in-Store.ensures
    ∙ ap (λ s. Store c.in-Store.name s plan) c.in_ok-copy-in-Store-2.ensures
    ∙ ap (λ p. Store c.in-Store.name c.in-Store.schema p) c.in_ok-copy-in-Store-3.ensures
    ∙ sym c.in-Store.is

pub returns-in_ok-copy-in-Insert-3 : goal.returns-in_ok-copy-in-Insert-3
returns-in_ok-copy-in-Insert-3 c =
    let schema = c.in_ok-copy-in-Insert-2.field-0 in
    let plan = c.in_ok-copy-in-Insert-3.field-0 in
    ap (λ n. Insert n schema plan) c.in_ok-copy-in-Insert.ensures
    ∙ ap (λ s. Insert c.in-Insert.name s plan) c.in_ok-copy-in-Insert-2.ensures
    ∙ ap (λ p. Insert c.in-Insert.name c.in-Insert.schema p) c.in_ok-copy-in-Insert-3.ensures
    ∙ sym c.in-Insert.is

pub returns-in_ok-copy-in-Remove : goal.returns-in_ok-copy-in-Remove
returns-in_ok-copy-in-Remove c = ap (λ n. Remove n) c.in_ok-copy-in-Remove.ensures ∙ sym c.in-Remove.is

pub returns-in_ok-copy-in-RemoveVersions : goal.returns-in_ok-copy-in-RemoveVersions
returns-in_ok-copy-in-RemoveVersions c = ap (λ n. RemoveVersions n c.in-RemoveVersions.below) c.in_ok-copy-in-RemoveVersions.ensures ∙ sym c.in-RemoveVersions.is
