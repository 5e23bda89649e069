-- Files in memory, by name, and a shelf of them.
use Rattle.std.specs.Prelude.{◌≡◌, ℕ, List, [], ◌∷◌, None, Some, unwrap_or, if◌then◌else◌, Result, Ok, Err, ◌⊎◌}
use Rattle.std.specs.Str.{bytes_eq}
use Rattle.std.specs.Option.{option_map}
use Rattle.std.specs.declared.option.Option.{Option}
use Rattle.afl_outside.specs.Counts.{risen}
use Rattle.afl_outside.specs.Turns.{Turns, no_turns, IsListed, passed, failed}
use Rattle.afl_outside.specs.InMemory.{MemorySink, new_sink}
use Rattle.afl_outside.specs.Shelf.{ShelfState}
use Rattle.afl_outside.specs.declared.source.Failed.{Failed}
use Rattle.afl_outside.specs.declared.in_memory.mem_file.MemFile.{MemFile}

-- the first file of a name
abbrev pub file_of : List MemFile → List ℕ → Option MemFile
file_of [] name = None
file_of (file ∷ files) name = if bytes_eq file.name name then Some file else file_of files name

-- the files without the first of a name
abbrev pub without : List MemFile → List ℕ → List MemFile
without [] name = []
without (file ∷ files) name = if bytes_eq file.name name then files else file ∷ without files name

-- what the first file of a name holds
abbrev pub file_bytes : List MemFile → List ℕ → Option (List ℕ)
file_bytes files name = option_map (λ f. f.content) (file_of files name)

-- the reply of a name: made from its file, or empty and without failing calls
abbrev pub made_reply : List ℕ → Option MemFile → MemorySink
made_reply name None = new_sink name [] []
made_reply name (Some file) = new_sink file.name file.content file.fails

-- A shelf in memory: the files and replies that are left, its calls, how often it has found no memory, and how many replies and
-- devices it has handed out.
pub record MemoryShelf : Type 0 where
  pub files : List MemFile
  pub replies : List MemFile
  pub turns : Turns
  pub wants : ℕ
  pub handed : ℕ

-- one from which nothing was taken
abbrev pub new_shelf : List MemFile → List MemFile → List ℕ → MemoryShelf
new_shelf files replies fails = record { files = files; replies = replies; turns = no_turns fails; wants = 0; handed = 0 }

-- A script or a device is made of the file of that name, which is taken out, and counted so. The call fails exactly where its number
-- is listed or there is no such file.
abbrev pub OpensFile : {T : Type 0} → (MemFile → T) → (ℕ → ℕ) → List ℕ → MemoryShelf → MemoryShelf → Result T Failed → Type 0
OpensFile made count name old new (Ok x) = (file : MemFile) × (file_of old.files name ≡ Some file) × ¬ IsListed old.turns × (x ≡ made file)
    × (new ≡ record old { files = without old.files name; turns = passed old.turns; handed = count old.handed })
OpensFile made count name old new (Err e) = (IsListed old.turns ⊎ (file_of old.files name ≡ None)) × (new ≡ record old { turns = failed old.turns })

-- A reply is made of the file of that name in `replies`, which is taken out, and is counted. The call fails where its number is listed, and where
-- there is no such file it may find no memory.
abbrev pub OpensReply : List ℕ → MemoryShelf → MemoryShelf → Result MemorySink Failed → Type 0
OpensReply name old new (Ok x) = ¬ IsListed old.turns × (x ≡ made_reply name (file_of old.replies name))
    × (new ≡ record old { replies = without old.replies name; turns = passed old.turns; handed = risen old.handed })
OpensReply name old new (Err e) = (IsListed old.turns × (new ≡ record old { turns = failed old.turns }))
    ⊎ (¬ IsListed old.turns × (file_of old.replies name ≡ None) × (new ≡ record old { turns = passed old.turns; wants = risen old.wants }))

-- a shelf with a list of calls that are to fail tells nothing
abbrev pub if_sure : {T : Type 0} → List ℕ → Option T → Option T
if_sure [] told = told
if_sure (call ∷ fails) told = None

-- it tells that it opens the names of its files, and every name as a reply
abbrev pub memory_shelf_state : MemoryShelf → ShelfState
memory_shelf_state s = record {
  scripts = λ name. if_sure s.turns.fails (file_bytes s.files name);
  replies = λ name. if_sure s.turns.fails (Some (unwrap_or (file_bytes s.replies name) []));
  devices = λ name. if_sure s.turns.fails (file_bytes s.files name);
  faults = s.turns.faults;
  wants = s.wants;
  handed = s.handed;
}
