use Rattle.std.proofs.Common.{◌≡◌, ◌∙◌, ◌+◌, IfOk, sym, ap, subst, arith}
use Rattle.page_chain.specs.declared.slots.slots.slots.Target.{Target}
use Rattle.store_state.specs.Commits.{base_needs}
use Rattle.prepared_commits.specs.Layouts.{IsLayout}
use Rattle.prepared_commits.specs.Needs.{needs_by}
use Rattle.prepared_commits.proofs.parts.laying.either_layout.Goals as goal

pub record_layout-requires-clause-names : goal.record_layout-requires-clause-names
record_layout-requires-clause-names c = c.requires.names

pub record_layout-requires-clause-comes : goal.record_layout-requires-clause-comes
record_layout-requires-clause-comes c = c.requires.comes

pub record_layout-requires-clause-written : goal.record_layout-requires-clause-written
record_layout-requires-clause-written c = c.requires.written

pub record_layout-requires-clause-newest : goal.record_layout-requires-clause-newest
record_layout-requires-clause-newest c = c.requires.newest

pub record_layout-requires-clause-needed : goal.record_layout-requires-clause-needed
record_layout-requires-clause-needed c =
    c.requires.needed ∙ ap (λ (t : Target). needs_by t c.args.catalog.now c.args.newest.now c.args.change.now c.args.written) c.in-Record.is

pub record_layout-requires-clause-enough : goal.record_layout-requires-clause-enough
record_layout-requires-clause-enough c = c.requires.enough

pub record_layout-requires-clause-few : goal.record_layout-requires-clause-few
record_layout-requires-clause-few c = c.requires.few

pub base_layout-requires-clause-names : goal.base_layout-requires-clause-names
base_layout-requires-clause-names c = c.requires.names

pub base_layout-requires-clause-comes : goal.base_layout-requires-clause-comes
base_layout-requires-clause-comes c = c.requires.comes

pub base_layout-requires-clause-written : goal.base_layout-requires-clause-written
base_layout-requires-clause-written c = c.requires.written

pub base_layout-requires-clause-newest : goal.base_layout-requires-clause-newest
base_layout-requires-clause-newest c = c.requires.newest

pub base_layout-requires-clause-needed : goal.base_layout-requires-clause-needed
base_layout-requires-clause-needed c =
    let one : c.args.needed ≡ base_needs c.args.catalog.now c.args.newest.now c.args.change.now c.args.written + 1
    = c.requires.needed ∙ ap (λ (t : Target). needs_by t c.args.catalog.now c.args.newest.now c.args.change.now c.args.written) c.in-Root.is in
    omega (arith, one)

pub base_layout-requires-clause-enough : goal.base_layout-requires-clause-enough
base_layout-requires-clause-enough c =
    let one : c.args.needed ≡ base_needs c.args.catalog.now c.args.newest.now c.args.change.now c.args.written + 1
    = c.requires.needed ∙ ap (λ (t : Target). needs_by t c.args.catalog.now c.args.newest.now c.args.change.now c.args.written) c.in-Root.is in
    omega (arith, one, c.requires.enough)

pub base_layout-requires-clause-few : goal.base_layout-requires-clause-few
base_layout-requires-clause-few c = omega (arith, c.requires.few)

pub returns-in-Record : goal.returns-in-Record
returns-in-Record c =
    subst (λ (t : Target). IfOk c.record_layout.result (IsLayout t c.args.sequence c.args.catalog.now c.args.catalogue.now c.args.newest.now c.args.change.now
    c.args.written c.args.free.now)) (sym c.in-Record.is) c.record_layout.ensures

pub returns-in-Root : goal.returns-in-Root
returns-in-Root c =
    subst (λ (t : Target). IfOk c.base_layout.result (IsLayout t c.args.sequence c.args.catalog.now c.args.catalogue.now c.args.newest.now c.args.change.now
    c.args.written c.args.free.now)) (sym c.in-Root.is) c.base_layout.ensures
