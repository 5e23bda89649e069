use Rattle.std.proofs.Common.{◌<◌, ◌≤◌, length, refl, ◌∙◌, rules, arith}
use Rattle.area_cells.proofs.FoundLaws.{found_at}
use Rattle.shape_exec.proofs.MergedCells.{all_of_rest, one_of_rest}
use Rattle.shape_exec.proofs.found_chunks.push_rest.Goals as goal

pub loop-k-init : goal.loop-k-init
loop-k-init c = record { number = refl; so_far = λ made held. record { more = made; holds = held; same = refl } }

pub push_found-requires : goal.push_found-requires
push_found-requires c =
    let below : c.loop-k.k < length c.args.from.now = first_of (search rules, omega arith) in
    found_at c.args.grid.now c.args.from.now c.loop-k.k c.index-from-k.result c.requires.found below c.index-from-k.is

pub loop-k-preserved : goal.loop-k-preserved
loop-k-preserved c =
    let below : c.loop-k.k < length c.args.from.now = first_of (search rules, omega arith) in
    record {
      number = c.in_ok-push_found.ensures.number ∙ c.loop-k.invariant.number;
      so_far = λ made held. one_of_rest c.args.grid.now c.args.from.now made c.args.start c.loop-k.k c.index-from-k.result c.loop-k.chunk c.push_found.new.chunk below c.index-from-k.is c.in_ok-push_found.ensures.filled (c.loop-k.invariant.so_far made held);
    }

pub returns-clause-filled : goal.returns-clause-filled
returns-clause-filled c =
    let all : length c.args.from.now ≤ c.loop-k.k = first_of (search rules, omega arith) in
    λ made held. all_of_rest c.args.grid.now c.args.from.now made c.args.start c.loop-k.k c.loop-k.chunk all (c.loop-k.invariant.so_far made held)
