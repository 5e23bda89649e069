use Rattle.std.proofs.Common.{◌≡◌, ◌++◌, ◌∷◌, [], ℤ, List, get_or, rules, ap, ◌∙◌}
use Rattle.std.proofs.lemmas.List.{get_or_read}
use Rattle.std.specs.Prelude.{slice_set}
use Rattle.order_exec.proofs.group_numbers.push_at.Goals as goal

pub returns : goal.returns
returns c =
    let same : c.index_mut.result.now ≡ get_or c.args.groups.now.items c.args.place [] = get_or_read _ _ _ c.requires c.index_mut.ensures.value [] in
    let pushed : c.push.new.self ≡ c.index_mut.result.now ++ c.args.number.now ∷ [] = search rules in
    ap (slice_set c.args.groups.now.items c.args.place) (pushed ∙ ap (λ (ns : List ℤ). ns ++ c.args.number.now ∷ []) same)
