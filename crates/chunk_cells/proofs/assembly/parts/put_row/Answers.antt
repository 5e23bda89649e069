use Rattle.std.proofs.Common.{◌≡◌, ℕ, ◌+◌, ◌<◌, suc, false, List, ◌∷◌, length, set, take, sym, subst, ◌∙◌, arith, rules}
use Rattle.std.specs.List.{AllByRecursion}
use Rattle.arrayvec.specs.ArrayVec.{ArrayVec}
use Rattle.array_geom.specs.Link.{NumbersRise, numbers}
use Rattle.chunk_cells.specs.Inner.Near.{lies_between}
use Rattle.chunk_cells.specs.Inner.Numbers.{numbers_in}
use Rattle.chunk_cells.proofs.NumberLaws.{after_from, is_less, rise_from}
use Rattle.chunk_cells.proofs.PartLaws.{taken_before, taken_at_end, taken_more, taken_over, taken_by_all, same_numbers_set, as_long, core_at, not_longer, rest_after}
use Rattle.chunk_cells.proofs.assembly.parts.put_row.Goals as goal

pub loop-index-init : goal.loop-index-init
loop-index-init c = record {
  same = c.requires.same;
  taken = taken_before c.args.schema.now c.args.margins.now.items c.args.row.now c.numbers_near-near.result c.count_before-index.result c.args.listed.now c.args.chunks.now.items c.requires.frames c.numbers_near-near.ensures c.requires.inside c.requires.framed c.requires.same c.count_before-index.ensures.before;
}

pub returns-then-comes_before-clause-row : goal.returns-then-comes_before-clause-row
returns-then-comes_before-clause-row c =
    let i = c.loop-index.index in
    taken_at_end c.args.schema.now c.args.margins.now.items c.args.row.now c.numbers_near-near.result i c.args.listed.now c.args.chunks.now.items c.loop-index.chunks.items c.requires.frames c.numbers_near-near.ensures c.requires.inside c.requires.framed c.loop-index.invariant.same
    (after_from c.args.listed.now i c.index-listed-index.result c.numbers_near-near.result.high.items c.requires.in_order (omega arith) c.index-listed-index.is (is_less _ (sym c.comes_before.ensures ∙ c.if-comes_before.true)))
    c.loop-index.invariant.taken

pub offer-requires-clause-framed : goal.offer-requires-clause-framed
offer-requires-clause-framed c =
    let i = c.loop-index.index in
    let below : i < length c.loop-index.chunks.items = as_long i c.loop-index.chunks.items c.args.listed.now c.loop-index.invariant.same (omega arith) in
    record {
      valid = c.requires.frames.valid;
      core = core_at c.args.schema.now.dimensions c.loop-index.chunks.items c.args.listed.now i c.index_mut.result.now c.requires.framed c.loop-index.invariant.same below c.index_mut.ensures.value;
      each = c.requires.frames.each;
      places = c.requires.frames.places;
    }

pub count_outside-requires-clause-in_order : goal.count_outside-requires-clause-in_order
count_outside-requires-clause-in_order c =
    let i = c.loop-index.index in
    let listed = c.args.listed.now in
    let number = c.index-listed-index.result in
    subst (λ (later : List (ArrayVec ℕ)). NumbersRise (numbers_in (number ∷ later))) (sym (rest_after listed i)) (rise_from listed i number c.requires.in_order (omega arith) c.index-listed-index.is)

pub loop-index-preserved : goal.loop-index-preserved
loop-index-preserved c =
    let i = c.loop-index.index in
    let listed = c.args.listed.now in
    let chunks = c.loop-index.chunks.items in
    let chunk = c.index_mut.result.now in
    let new = c.offer.new.chunk in
    let near = c.numbers_near-near.result in
    let skipped = c.count_outside.result in
    let below : i < length chunks = as_long i chunks listed c.loop-index.invariant.same (omega arith) in
    let same : numbers (set chunks i new) ≡ numbers_in listed = same_numbers_set chunks i chunk new below c.index_mut.ensures.value c.in_ok-offer.ensures.number ∙ c.loop-index.invariant.same in
    record {
      same = same;
      taken = taken_over c.args.schema.now c.args.margins.now.items c.args.row.now near (suc i) (i + (1 + skipped)) skipped listed c.args.chunks.now.items (set chunks i new) (omega arith) c.requires.frames c.numbers_near-near.ensures c.requires.inside c.requires.framed same
          (subst (λ (later : List (ArrayVec ℕ)). AllByRecursion (λ n. lies_between near.low.items near.high.items n.items ≡ false) (take skipped later)) (rest_after listed i) c.count_outside.ensures.outside)
          (taken_more c.args.schema.now c.args.margins.now.items c.args.row.now i c.args.chunks.now.items chunks chunk new below c.index_mut.ensures.value c.in_ok-offer.ensures c.loop-index.invariant.taken);
    }

pub returns-clause-row : goal.returns-clause-row
returns-clause-row c = taken_by_all c.args.schema.now c.args.margins.now.items c.args.row.now c.loop-index.index c.args.chunks.now.items c.loop-index.chunks.items (not_longer c.loop-index.index c.loop-index.chunks.items c.args.listed.now c.loop-index.invariant.same (omega arith)) c.loop-index.invariant.taken

pub index_mut-requires : goal.index_mut-requires
index_mut-requires c =
    let below : c.loop-index.index < length c.loop-index.chunks.items = as_long c.loop-index.index c.loop-index.chunks.items c.args.listed.now c.loop-index.invariant.same c.loop-index-test.true in
    search rules
