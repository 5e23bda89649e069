use Rattle.std.proofs.Common.{◌∙◌, IfOk, sym, ap, subst}
use Rattle.std.specs.Option.{option_copied}
use Rattle.chunk_map.specs.Entries.{AreRising}
use Rattle.prepared_commits.specs.Layouts.{IsLayout}
use Rattle.prepared_commits.specs.Needs.{needs_by, or_empty}
use Rattle.prepared_commits.proofs.Making.{of_entries}
use Rattle.prepared_commits.proofs.parts.laying.layout_over.Goals as goal

pub either_layout-requires-clause-names : goal.either_layout-requires-clause-names
either_layout-requires-clause-names c = c.requires.names

pub either_layout-requires-clause-comes : goal.either_layout-requires-clause-comes
either_layout-requires-clause-comes c = c.requires.comes

pub either_layout-requires-clause-written : goal.either_layout-requires-clause-written
either_layout-requires-clause-written c = c.requires.written

pub either_layout-requires-clause-enough : goal.either_layout-requires-clause-enough
either_layout-requires-clause-enough c = c.requires.enough

pub either_layout-requires-clause-few : goal.either_layout-requires-clause-few
either_layout-requires-clause-few c = c.requires.few

pub either_layout-requires-clause-newest : goal.either_layout-requires-clause-newest
either_layout-requires-clause-newest c = subst (λ o. AreRising (or_empty (option_copied o)).entries) c.in-Some.is c.requires.newest

pub either_layout-requires-clause-needed : goal.either_layout-requires-clause-needed
either_layout-requires-clause-needed c =
    c.requires.needed ∙ ap (λ o. needs_by c.args.target c.args.catalog.now (or_empty (option_copied o)) c.args.change.now c.args.written) c.in-Some.is

pub returns-in-Some : goal.returns-in-Some
returns-in-Some c =
    subst (λ o. IfOk c.either_layout.result (IsLayout c.args.target c.args.sequence c.args.catalog.now c.args.catalogue.now (or_empty (option_copied o))
    c.args.change.now c.args.written c.args.free.now)) (sym c.in-Some.is) c.either_layout.ensures

pub either_layout-requires-in-None-clause-newest : goal.either_layout-requires-in-None-clause-newest
either_layout-requires-in-None-clause-newest c =
    subst AreRising (sym c.new.ensures) (subst (λ o. AreRising (or_empty (option_copied o)).entries) c.in-None.is c.requires.newest)

pub either_layout-requires-in-None-clause-needed : goal.either_layout-requires-in-None-clause-needed
either_layout-requires-in-None-clause-needed c =
    c.requires.needed
    ∙ ap (λ o. needs_by c.args.target c.args.catalog.now (or_empty (option_copied o)) c.args.change.now c.args.written) c.in-None.is
    ∙ ap (λ l. needs_by c.args.target c.args.catalog.now (of_entries l) c.args.change.now c.args.written) (sym c.new.ensures)

pub returns-in-None : goal.returns-in-None
returns-in-None c =
    let answer = c.either_layout-in-None.result in
    subst (λ o. IfOk answer (IsLayout c.args.target c.args.sequence c.args.catalog.now c.args.catalogue.now (or_empty (option_copied o))
    c.args.change.now c.args.written c.args.free.now)) (sym c.in-None.is)
    (subst (λ l. IfOk answer (IsLayout c.args.target c.args.sequence c.args.catalog.now c.args.catalogue.now (of_entries l)
    c.args.change.now c.args.written c.args.free.now)) c.new.ensures c.either_layout-in-None.ensures)

pub either_layout-requires-in-None-clause-names : goal.either_layout-requires-in-None-clause-names
either_layout-requires-in-None-clause-names c = c.requires.names

pub either_layout-requires-in-None-clause-comes : goal.either_layout-requires-in-None-clause-comes
either_layout-requires-in-None-clause-comes c = c.requires.comes

pub either_layout-requires-in-None-clause-written : goal.either_layout-requires-in-None-clause-written
either_layout-requires-in-None-clause-written c = c.requires.written

pub either_layout-requires-in-None-clause-enough : goal.either_layout-requires-in-None-clause-enough
either_layout-requires-in-None-clause-enough c = c.requires.enough

pub either_layout-requires-in-None-clause-few : goal.either_layout-requires-in-None-clause-few
either_layout-requires-in-None-clause-few c = c.requires.few
