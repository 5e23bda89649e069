-- What sources over arrays in memory are, and what their calls do.
use Rattle.std.specs.Prelude.{◌≡◌, ℕ, List, [], None, Result, Ok, Err}
use Rattle.afl_outside.specs.Turns.{Turns, no_turns, IsListed, passed, failed}
use Rattle.chunk_source.specs.declared.sources.asked.Asked.{Asked}
use Rattle.chunk_source.specs.declared.sources.fault.SourceFault.{SourceFault}
use Rattle.chunk_source.specs.declared.sources.fault.SourceFault.TheVariants.{Failed, Damaged, Memory}
use Rattle.chunk_source.specs.Source.{SourceState}
use Rattle.chunk_source.specs.declared.memory.leaf_array.LeafArray.{LeafArray}
use Rattle.chunk_source.specs.Found.{array_of, schema_of, chunks_of, database_of}

-- the arrays, and the chunks that were asked for
pub record StoredArrays : Type 0 where
  pub arrays : List LeafArray
  pub asked : List Asked

-- before the first call
abbrev pub unread : List LeafArray → StoredArrays
unread arrays = record { arrays = arrays; asked = [] }

-- A source over these arrays tells their database, and finds no page damaged.
abbrev pub stored_state : StoredArrays → ℕ → SourceState
stored_state s faults = record {
  stored = λ name version. schema_of (array_of s.arrays name version);
  chunks = λ name version. chunks_of (array_of s.arrays name version);
  tells = λ db. db ≡ database_of s.arrays;
  asked = s.asked;
  damaged = None;
  faults = faults;
}

-- one that never fails
abbrev pub sure_state : StoredArrays → SourceState
sure_state s = stored_state s 0

-- one whose calls may fail, and before its first call
pub record MemoryChunks : Type 0 where
  pub sure : StoredArrays
  pub turns : Turns

abbrev pub new_chunks : List LeafArray → List ℕ → MemoryChunks
new_chunks arrays fails = record { sure = unread arrays; turns = no_turns fails }

abbrev pub memory_state : MemoryChunks → SourceState
memory_state s = stored_state s.sure s.turns.faults

-- A call fails exactly where its number is listed.
abbrev pub TakesTurn : {T : Type 0} → Turns → Turns → Result T SourceFault → Type 0
TakesTurn old new (Ok x) = ¬ IsListed old × (new ≡ passed old)
TakesTurn old new (Err Failed) = IsListed old × (new ≡ failed old)
TakesTurn old new (Err (Damaged page)) = ⊥
TakesTurn old new (Err Memory) = ¬ IsListed old × (new ≡ passed old)
