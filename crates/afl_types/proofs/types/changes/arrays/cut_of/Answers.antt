use Rattle.std.proofs.Common.{ℕ, ℤ, List, Option, Ok, sym, ap, ◌∙◌, to_z-of_z}
use Rattle.logical_plan.specs.declared.names.NameEntry.{NameEntry}
use Rattle.plan_changes.specs.declared.change.Change.TheVariants.{RemoveVersions}
use Rattle.afl_types.specs.Changes.{below_of, cut_at, cut_of}
use Rattle.afl_types.proofs.types.changes.arrays.cut_of.Goals as goal

pub returns-in_ok-copy-in-Some-below_of : goal.returns-in_ok-copy-in-Some-below_of
returns-in_ok-copy-in-Some-below_of c =
    let name = c.args.name.now in
    ap (λ (o : Option NameEntry). cut_of c.args.at c.args.number_at name c.args.number o) (sym c.in-Some.ensures)
    ∙ ap (λ (n : ℕ). cut_at c.args.number_at name (below_of n c.args.number)) (sym c.last_of.ensures)
    ∙ ap (λ (z : ℤ). cut_at c.args.number_at name (below_of c.last_of.result z)) (sym (to_z-of_z c.ranges.number))
    ∙ ap (cut_at c.args.number_at name) (sym c.in-Some-below_of.ensures)
    ∙ ap (λ (copy : List ℕ). Ok (RemoveVersions copy c.in-Some-below_of.below)) (sym c.in_ok-copy-in-Some-below_of.ensures)
