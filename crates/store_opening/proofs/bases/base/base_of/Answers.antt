use Rattle.std.proofs.Common.{◌≡◌, rules, sym, subst}
use Rattle.event_core.specs.Legal.{BeginsWithNames}
use Rattle.store_opening.specs.Bases.{base_core}
use Rattle.store_opening.proofs.NamedLaws.{bases_begin}
use Rattle.store_opening.proofs.bases.base.base_of.Goals as goal

pub returns-in-Ok-clause-begins : goal.returns-in-Ok-clause-begins
returns-in-Ok-clause-begins c =
    let is : c.fill.new.core ≡ base_core c.args.found.now c.args.log c.args.limit = search rules in
    subst BeginsWithNames (sym is) (bases_begin c.args.found.now c.args.log c.args.limit c.requires)
