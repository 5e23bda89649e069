use Rattle.std.proofs.Common.{◌≡◌, IfOk, subst, sym}
use Rattle.std.specs.Option.{option_copied}
use Rattle.chunk_map.specs.Entries.{AreRising}
use Rattle.prepared_commits.specs.Needs.{needs_by, or_empty}
use Rattle.prepared_commits.proofs.Making.{of_entries}
use Rattle.prepared_commits.proofs.parts.counting.needed_over.Goals as goal

pub needed-requires-clause-names : goal.needed-requires-clause-names
needed-requires-clause-names c = c.requires.names

pub needed-requires-clause-comes : goal.needed-requires-clause-comes
needed-requires-clause-comes c = c.requires.comes

pub needed-requires-clause-written : goal.needed-requires-clause-written
needed-requires-clause-written c = c.requires.written

pub needed-requires-in-None-clause-names : goal.needed-requires-in-None-clause-names
needed-requires-in-None-clause-names c = c.requires.names

pub needed-requires-in-None-clause-comes : goal.needed-requires-in-None-clause-comes
needed-requires-in-None-clause-comes c = c.requires.comes

pub needed-requires-in-None-clause-written : goal.needed-requires-in-None-clause-written
needed-requires-in-None-clause-written c = c.requires.written

pub needed-requires-clause-newest : goal.needed-requires-clause-newest
needed-requires-clause-newest c = subst (λ o. AreRising (or_empty (option_copied o)).entries) c.in-Some.is c.requires.newest

pub needed-requires-in-None-clause-newest : goal.needed-requires-in-None-clause-newest
needed-requires-in-None-clause-newest c =
    subst AreRising (sym c.new.ensures) (subst (λ o. AreRising (or_empty (option_copied o)).entries) c.in-None.is c.requires.newest)

pub returns-in-Some : goal.returns-in-Some
returns-in-Some c =
    subst (λ o. IfOk c.needed.result (λ count. count ≡ needs_by c.args.target c.args.catalog.now (or_empty (option_copied o)) c.args.change.now c.args.written.now))
    (sym c.in-Some.is) c.needed.ensures

pub returns-in-None : goal.returns-in-None
returns-in-None c =
    let answer = c.needed-in-None.result in
    subst (λ o. IfOk answer (λ count. count ≡ needs_by c.args.target c.args.catalog.now (or_empty (option_copied o)) c.args.change.now c.args.written.now)) (sym c.in-None.is)
    (subst (λ l. IfOk answer (λ count. count ≡ needs_by c.args.target c.args.catalog.now (of_entries l) c.args.change.now c.args.written.now)) c.new.ensures c.needed-in-None.ensures)
