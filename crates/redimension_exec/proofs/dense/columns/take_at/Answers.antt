use Rattle.std.proofs.Common.{◌≡◌, ◌+◌, get_or, rules, sym, ap, ◌∙◌, subst}
use Rattle.std.proofs.lemmas.Int.{to_z-of_z}
use Rattle.std.proofs.lemmas.List.{get_or_read}
use mir.Val.{SFits}
use mir.Syntax.{w64}
use Rattle.agg_states.specs.Stands.{StandsFor}
use Rattle.agg_states.specs.Inner.Summary.{Summary}
use Rattle.redimension_exec.specs.Inner.Dense.{no_cells}
use Rattle.redimension_exec.proofs.dense.columns.take_at.Goals as goal

pub returns : goal.returns
returns c =
    let fits : SFits w64 c.args.number = search rules in
    let same : c.index_mut.result.now ≡ get_or c.args.states.now.items c.args.place no_cells = get_or_read _ _ _ c.requires.inside c.index_mut.ensures.value no_cells in
    let takes = simp to_z-of_z at c.take_number.ensures.stands in
    record {
      state = c.take_number.new.self;
      set = search rules;
      stands = λ g rows row stands value fault none. takes g rows row (subst (StandsFor g rows) (sym same) stands) value fault none;
      cells = c.take_number.ensures.cells ∙ ap (λ (s : Summary). s.cells + 1) same;
    }
