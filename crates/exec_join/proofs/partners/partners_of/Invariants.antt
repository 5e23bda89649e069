use Rattle.std.proofs.Common.{◌≡◌, map}
use Rattle.exec_join.specs.Inner.Partners.{partner}
use Rattle.exec_join.proofs.partners.partners_of.Given as goal

abbrev pub invariant-loop-row : goal.invariant-loop-row
invariant-loop-row l = l.partners.items ≡ map (partner l.places) l.yielded
