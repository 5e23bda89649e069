use Rattle.std.proofs.Common.{◌≡◌, ◌≤◌, List, [], ◌∷◌, ◌++◌, length, map, OnOk, refl, sym, ap, subst, ◌∙◌, arith}
use Rattle.std.specs.Option.{option_to_list}
use Rattle.std.proofs.lemmas.Option.{slice_get_read}
use Rattle.cell_values.specs.Schemas.{dimension_names}
use Rattle.cell_values.specs.declared.name.Name.{Name}
use Rattle.logical_plan.specs.PlanSchema.{without_overlap}
use Rattle.check_groups.proofs.GroupNames.{none_named}
use Rattle.check_groups.proofs.groups.aggregate.push_name_at.Goals as goal

pub returns-in-None : goal.returns-in-None
returns-in-None c =
    let past : length c.args.dimensions.now ≤ c.args.place = omega (arith, c.in-None.ensures.lookup) in
    none_named c.args.names.now c.args.dimensions.now c.args.place past

pub returns-in_ok-copy-in-Some : goal.returns-in_ok-copy-in-Some
returns-in_ok-copy-in-Some c =
    let dims = c.args.dimensions.now in
    let here = slice_get_read dims (length dims) c.args.place c.in-Some.dimension.now refl c.in-Some.ensures.lookup.3.0 c.in-Some.ensures.lookup.1 in
    subst (λ (l : List Name). OnOk c.push.result (c.push.new.self ≡ c.args.names.now ++ l))
    (ap (λ (n : Name). n ∷ []) c.in_ok-copy-in-Some.ensures ∙ sym (ap (λ o. dimension_names (map without_overlap (option_to_list o))) here)) c.push.ensures.ok
