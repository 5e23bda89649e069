use Rattle.std.proofs.Common.{◌≡◌, ℕ, ℤ, ◌+◌, ◌<◌, pos, ◌+ℤ◌, true, List, [], ◌∷◌, ◌++◌, length, take, sym, ◌∙◌, ap, subst, w64, FitsSigned, arith, rules}
use Rattle.std.specs.List.{flat_map}
use Rattle.std.proofs.Math.Seq.{take-append_seam}
use Rattle.std.proofs.lemmas.Int.{to_z-of_z}
use Rattle.std.proofs.lemmas.List.{take_all}
use Rattle.arrayvec.specs.ArrayVec.{ArrayVec}
use Rattle.cell_values.specs.declared.datum.Row.{Row}
use Rattle.array_geom.specs.Geometry.{position_in}
use Rattle.array_geom.specs.Inner.Ranges.{is_in_grid}
use Rattle.logical_plan.specs.Meaning.{count_from, how_many}
use Rattle.exec_cellwise.specs.Inner.Rows.{built_row}
use Rattle.exec_cellwise.specs.Inner.Walks.{TakesRows}
use Rattle.exec_cellwise.proofs.RowLaws.{along_more, takes_both, takes_none}
use Rattle.exec_cellwise.proofs.RunLaws.{after_all, after_low, inside_run, low_in, next_number, place_further, up_to}
use Rattle.exec_cellwise.proofs.build.chunks.cells.add_run.Goals as goal

pub place_behind-place-requires-clause-place : goal.place_behind-place-requires-clause-place
place_behind-place-requires-clause-place c =
    let fits : FitsSigned w64 c.number_at.result = search rules in
    let fits_low : FitsSigned w64 c.args.low.now = search rules in
    let fits_high : FitsSigned w64 c.args.high.now = search rules in
    let count : c.in_ok-offset-end.offset-end ≡ how_many c.args.low.now c.args.high.now = simp to_z-of_z at c.in_ok-offset-end.ensures.value in
    let within = subst (λ (n : ℕ). c.loop-offset.offset < n) count c.loop-offset-test.true in
    let low = c.args.grid.now.low.items in
    let lengths = c.args.grid.now.lengths.items in
    let at = c.args.at.now.items in
    let order = low_in c.args.low.now c.args.high.now c.loop-offset.offset within in
    let next : c.push.new.self.items ≡ at ++ (c.args.low.now +ℤ pos c.loop-offset.offset) ∷ []
    = next_number at c.loop-offset.next.items c.truncate.new.self.items c.push.new.self.items c.number_at.result c.args.low.now c.loop-offset.offset c.len.result
    c.len.ensures.value c.truncate.ensures.items c.loop-offset.invariant.begins (simp to_z-of_z at c.number_at.ensures) (simp to_z-of_z at c.push.ensures.items) in
    ap (position_in low lengths) next
    ∙ place_further low lengths at c.args.low.now c.loop-offset.offset (inside_run low lengths at c.args.low.now c.args.high.now c.args.low.now (after_low c.args.low.now) order c.requires.inside)
    ∙ ap (λ (n : ℕ). n + c.loop-offset.offset) (sym (c.first_place-first.ensures order))

pub loop-offset-preserved : goal.loop-offset-preserved
loop-offset-preserved c =
    let fits : FitsSigned w64 c.number_at.result = search rules in
    let fits_low : FitsSigned w64 c.args.low.now = search rules in
    let fits_high : FitsSigned w64 c.args.high.now = search rules in
    let count : c.in_ok-offset-end.offset-end ≡ how_many c.args.low.now c.args.high.now = simp to_z-of_z at c.in_ok-offset-end.ensures.value in
    let within = subst (λ (n : ℕ). c.loop-offset.offset < n) count c.loop-offset-test.true in
    let low = c.args.grid.now.low.items in
    let lengths = c.args.grid.now.lengths.items in
    let at = c.args.at.now.items in
    let row = built_row c.args.attributes.now c.args.value.now in
    let here = c.args.low.now +ℤ pos c.loop-offset.offset in
    let next : c.push.new.self.items ≡ at ++ here ∷ []
    = next_number at c.loop-offset.next.items c.truncate.new.self.items c.push.new.self.items c.number_at.result c.args.low.now c.loop-offset.offset c.len.result
    c.len.ensures.value c.truncate.ensures.items c.loop-offset.invariant.begins (simp to_z-of_z at c.number_at.ensures) (simp to_z-of_z at c.push.ensures.items) in
    let inside : is_in_grid low lengths c.push.new.self.items ≡ true
    = ap (is_in_grid low lengths) next ∙ inside_run low lengths at c.args.low.now c.args.high.now here (after_all c.args.low.now c.loop-offset.offset) (up_to c.args.low.now c.args.high.now c.loop-offset.offset within) c.requires.inside in
    record {
      begins = ap (take (length at)) next ∙ take-append_seam at (here ∷ []);
      takes =
          subst (λ (rows : List Row). TakesRows low lengths rows c.args.chunk.now c.add_placed.new.chunk) (along_more (λ x. row (at ++ x ∷ []) ∷ []) c.args.low.now c.loop-offset.offset)
          (takes_both low lengths _ _ c.args.chunk.now c.loop-offset.chunk c.add_placed.new.chunk c.loop-offset.invariant.takes
          (subst (λ (l : List ℤ). TakesRows low lengths (row l ∷ []) c.loop-offset.chunk c.add_placed.new.chunk) next (c.in_ok-add_placed.ensures low lengths inside c.place_behind-place.ensures)));
    }

pub returns : goal.returns
returns c =
    let all : c.loop-offset.offset ≡ how_many c.args.low.now c.args.high.now = search rules in
    let row = built_row c.args.attributes.now c.args.value.now in
    let at = c.args.at.now.items in
    subst (λ (n : ℕ). TakesRows c.args.grid.now.low.items c.args.grid.now.lengths.items (flat_map (λ x. row (at ++ x ∷ []) ∷ []) (count_from c.args.low.now n)) c.args.chunk.now c.loop-offset.chunk) all c.loop-offset.invariant.takes

pub place_behind-place-requires-clause-inside : goal.place_behind-place-requires-clause-inside
place_behind-place-requires-clause-inside c =
    let fits : FitsSigned w64 c.number_at.result = search rules in
    let fits_low : FitsSigned w64 c.args.low.now = search rules in
    let fits_high : FitsSigned w64 c.args.high.now = search rules in
    let count : c.in_ok-offset-end.offset-end ≡ how_many c.args.low.now c.args.high.now = simp to_z-of_z at c.in_ok-offset-end.ensures.value in
    let within = subst (λ (n : ℕ). c.loop-offset.offset < n) count c.loop-offset-test.true in
    let low = c.args.grid.now.low.items in
    let lengths = c.args.grid.now.lengths.items in
    let at = c.args.at.now.items in
    let here = c.args.low.now +ℤ pos c.loop-offset.offset in
    ap (is_in_grid low lengths)
    (next_number at c.loop-offset.next.items c.truncate.new.self.items c.push.new.self.items c.number_at.result c.args.low.now c.loop-offset.offset
    c.len.result c.len.ensures.value c.truncate.ensures.items c.loop-offset.invariant.begins (simp to_z-of_z at c.number_at.ensures)
    (simp to_z-of_z at c.push.ensures.items))
    ∙ inside_run low lengths at c.args.low.now c.args.high.now here (after_all c.args.low.now c.loop-offset.offset)
    (up_to c.args.low.now c.args.high.now c.loop-offset.offset within) c.requires.inside

pub loop-offset-init : goal.loop-offset-init
loop-offset-init c =
    let at = c.args.at.now.items in
    record {
      begins = ap (λ (v : ArrayVec ℤ). take (length at) v.items) c.copy_coord-next.ensures ∙ take_all (length at) at (omega arith);
      takes = takes_none c.args.grid.now.low.items c.args.grid.now.lengths.items c.args.chunk.now;
    }
