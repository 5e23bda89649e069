use Rattle.std.proofs.Common.{ℕ, Bool, not, Ok, List, sym, ap, ◌∙◌}
use Rattle.schema_grammar.specs.declared.kinds.TypeKind.TheVariants.{ArrayExists, TooManyArrays}
use Rattle.plan_changes.specs.declared.change.Change.{Change}
use Rattle.plan_changes.specs.declared.change.Change.TheVariants.{Create}
use Rattle.check_rules.specs.Checked.{Checked, demand}
use Rattle.plan_changes.specs.Allowed.{has_room}
use Rattle.afl_types.proofs.types.changes.create.created_as.Goals as goal

pub returns : goal.returns
returns c =
    let made : List ℕ → Checked Change = λ name. Ok (Create name c.args.schema) in
    let roomy : Bool → Checked Change = λ room. demand room c.args.at TooManyArrays (made c.args.name.now) in
    ap (λ (has : Bool). demand (not has) c.args.at ArrayExists (roomy (has_room c.args.arrays.now))) (sym c.has_array.ensures ∙ c.if-has_array.false)
    ∙ ap roomy (sym c.has_room.ensures ∙ c.if-not-has_room.false) ∙ ap made (sym c.in_ok-copy.ensures)
