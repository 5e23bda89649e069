use Rattle.std.proofs.Common.{◌≡◌, ℕ, true, false, List, length, Option, refl, ap}
use Rattle.plan_changes.specs.Names.{Names}
use Rattle.plan_changes.specs.declared.change.Change.{Change}
use Rattle.plan_changes.specs.declared.change.Change.TheVariants.{Create, Store, Insert, Remove, RemoveVersions}
use Rattle.plan_changes.specs.Changes.{next_of}
use Rattle.event_core.specs.Apart.{makes_version}
use Rattle.event_core.proofs.Tests.{both_not}
use Rattle.store_versions.specs.declared.ready.ReadyVersion.{ReadyVersion}
use Rattle.store_versions.specs.Rows.{HasNext, IsReadyFor}
use Rattle.store_versions.proofs.table.VersionTable.committed.Goals as goal

-- a change that makes a version has one ready
next_ready : (names : Names) (change : Change) (count : ℕ) (ready : Option ReadyVersion) → makes_version change ≡ true → IsReadyFor names change count ready →
    (name : List ℕ) × (number : ℕ) × HasNext name number count ready
next_ready names (Create name schema) count ready makes is = absurd (both_not false refl makes)
next_ready names (Store name schema plan) count ready makes is = (name, next_of names.arrays name, is)
next_ready names (Insert name schema plan) count ready makes is = (name, next_of names.arrays name, is)
next_ready names (Remove name) count ready makes is = absurd (both_not false refl makes)
next_ready names (RemoveVersions name below) count ready makes is = absurd (both_not false refl makes)

pub made_next-requires-clause-ready : goal.made_next-requires-clause-ready
made_next-requires-clause-ready c = next_ready c.args.names.now c.args.change.now (length c.args.self.now.rows) c.args.ready (ap makes_version c.in-Store.is) c.requires.ready

pub made_next-requires-in-Insert-clause-ready : goal.made_next-requires-in-Insert-clause-ready
made_next-requires-in-Insert-clause-ready c = next_ready c.args.names.now c.args.change.now (length c.args.self.now.rows) c.args.ready (ap makes_version c.in-Insert.is) c.requires.ready
