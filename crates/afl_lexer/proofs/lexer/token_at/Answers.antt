use Rattle.std.proofs.Common.{◌+◌, ◌≤◌, length, drop, arith}
use Rattle.std.proofs.lemmas.List.{length-drop}
use Rattle.afl_lexer.specs.declared.reading.Reading.TheVariants.{Found, Wrong}
use Rattle.afl_lexer.proofs.Judged.{IsRight}
use Rattle.afl_lexer.proofs.Places.{fails_at}
use Rattle.afl_lexer.proofs.Readings.{right_here, found_within, wrong_within}
use Rattle.afl_lexer.proofs.Walks.{begins_at}
use Rattle.afl_lexer.proofs.lexer.token_at.Goals as goal

found : (c : goal.In-Found) → IsRight (drop c.args.at c.args.text.now) (Found c.in-Found.kind c.in-Found.len)
found c = right_here c.args.text.now c.args.at (Found c.in-Found.kind c.in-Found.len) c.requires.within c.in-Found.ensures

found_end : (c : goal.In-Found) → c.args.at + c.in-Found.len ≤ length c.args.text.now
found_end c = omega (arith, (found_within _ _ _ (found c)).1, length-drop c.args.at c.args.text.now, c.requires.within)

wrong : (c : goal.In-Wrong) → IsRight (drop c.args.at c.args.text.now) (Wrong c.in-Wrong.kind c.in-Wrong.further)
wrong c = right_here c.args.text.now c.args.at (Wrong c.in-Wrong.kind c.in-Wrong.further) c.requires.within c.in-Wrong.ensures

wrong_place : (c : goal.In-Wrong) → c.args.at + c.in-Wrong.further ≤ length c.args.text.now
wrong_place c = omega (arith, wrong_within _ _ _ (wrong c), length-drop c.args.at c.args.text.now, c.requires.within)

pub overflow_add-result : goal.overflow_add-result
overflow_add-result c = omega (arith, found_end c, c.requires.small)

pub overflow_cast-result-in-Found : goal.overflow_cast-result-in-Found
overflow_cast-result-in-Found c = omega (arith, found_end c, c.requires.small)

pub overflow_add-result-in-Wrong : goal.overflow_add-result-in-Wrong
overflow_add-result-in-Wrong c = omega (arith, wrong_place c, c.requires.small)

pub overflow_cast-result-in-Wrong : goal.overflow_cast-result-in-Wrong
overflow_cast-result-in-Wrong c = omega (arith, wrong_place c, c.requires.small)

pub returns-in-Found-clause-token : goal.returns-in-Found-clause-token
returns-in-Found-clause-token c = begins_at c.args.text.now c.args.at c.in-Found.kind c.in-Found.len c.requires.within (found c)

pub returns-in-Wrong-clause-fault : goal.returns-in-Wrong-clause-fault
returns-in-Wrong-clause-fault c = fails_at c.in-Wrong.kind c.args.text.now c.args.at c.in-Wrong.further c.requires.within (wrong c)
