use Rattle.shape_exec.proofs.PairParts.{cores_of_both}
use Rattle.shape_exec.proofs.pair_numbers.numbers_of_both.Goals as goal

pub returns-clause-cores : goal.returns-clause-cores
returns-clause-cores c = λ dims a b. cores_of_both dims c.args.left c.args.right c.append.new.self c.in_order.result c.in_ok-append.ensures.ok a b c.in_order.ensures.listed
