use Rattle.test_language.proofs.Pushed.{valid_after}
use Rattle.test_language.proofs.stored.push_array_in.Goals as goal

pub returns : goal.returns
returns c =
    valid_after c.push.result c.args.arrays.now c.push.new.self c.in_ok-entry.entry c.push.ensures.ok c.push.ensures.err c.requires c.in_ok-entry.ensures
