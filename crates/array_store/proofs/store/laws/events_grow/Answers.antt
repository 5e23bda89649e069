use Rattle.array_store.proofs.Added.{commits_add_events, entries_add_events, faults_add_events, notes_add_events}
use Rattle.array_store.proofs.store.laws.events_grow.Goals as goal

pub returns : goal.returns
returns g c = record {
  entries = entries_add_events _;
  commits = commits_add_events _;
  notes = notes_add_events _;
  faults = faults_add_events _;
}
