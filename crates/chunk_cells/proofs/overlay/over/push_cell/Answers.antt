use Rattle.std.proofs.Common.{ℕ, ◌<◌, List, [], ◌∷◌, ◌++◌, length, slice_index_or, refl, ap, sym, ◌∙◌, subst}
use Rattle.cell_values.specs.declared.datum.Cell.{Cell}
use Rattle.cell_values.specs.declared.datum.Cell.TheVariants.{Full}
use Rattle.chunk_cells.proofs.RestLaws.{first_dropped}
use Rattle.chunk_cells.proofs.overlay.over.push_cell.Goals as goal

pub push_same-requires : goal.push_same-requires
push_same-requires c = subst (λ (cells : List Cell). c.args.index < length cells) (sym c.form.ensures) (subst (λ (n : ℕ). c.args.index < n) (sym c.requires.each) c.requires.inside)

pub returns : goal.returns
returns c =
    let old = c.args.made.now in
    let from = c.args.from.now in
    let index = c.args.index in
    let cell_low = subst (λ (n : ℕ). index < n) (sym c.requires.each) c.requires.inside in record {
      number = refl;
      positions = c.in_ok-push.ensures.ok ∙ ap (λ (p : ℕ). old.positions ++ p ∷ []) c.index.ensures
          ∙ ap (λ (ps : List ℕ). old.positions ++ ps) (sym (first_dropped from.positions index c.index.result.now c.requires.inside));
      cells = c.in_ok-push_same.ensures ∙ ap (λ (cells : List Cell). old.cells ++ slice_index_or cells index (Full []) ∷ []) c.form.ensures
          ∙ ap (λ (cs : List Cell). old.cells ++ cs) (sym (first_dropped from.cells index (Full []) cell_low));
    }
