-- Laws of forms and faults.
use Rattle.std.specs.Prelude.{◌≡◌, ℕ, ◌<◌, ◌≤◌, ◌^◌, Some, List, length, drop, slice_get}
use Rattle.command_words.specs.declared.words.forms.Form.{Form}
use Rattle.command_words.specs.declared.words.forms.Printing.{Printing}
use Rattle.command_words.specs.Forms.{Word, IsForm, IsGenerate, IsInit, IsRun}
use Rattle.command_words.specs.Faults.{IsFault}

-- no words have two forms
abbrev pub FormsAreUnique : Type 0
FormsAreUnique = (words : List Word) (one other : Form) → IsForm words one → IsForm words other → one ≡ other

-- nor are they wrong at two places
abbrev pub FaultsAreUnique : Type 0
FaultsAreUnique = (words : List Word) (one other : ℕ) → IsFault words one → IsFault words other → one ≡ other

-- in words of a form the device stands at place 1
abbrev pub InitsNameTheirDevice : Type 0
InitsNameTheirDevice = (words : List Word) (init : IsInit words) → slice_get words 1 ≡ Some init.device

-- and the scripts are all words from the first one on
abbrev pub RunsNameTheirScripts : Type 0
RunsNameTheirScripts = (words : List Word) (workers pages history : ℕ) (printing : Printing) (first : ℕ)
    → (run : IsRun words workers pages history printing first)
    → (slice_get words 1 ≡ Some run.device) × (drop first words ≡ run.scripts) × (first < length words)

abbrev pub FormsKeepTheirPlaces : Type 0
FormsKeepTheirPlaces = InitsNameTheirDevice × RunsNameTheirScripts

-- the numbers of a run and of a generated script are in their ranges
abbrev pub IsWithin : ℕ → ℕ → ℕ → Type 0
IsWithin least most number = (least ≤ number) × (number ≤ most)

abbrev pub RunsKeepTheirRanges : Type 0
RunsKeepTheirRanges = (words : List Word) (workers pages history : ℕ) (printing : Printing) (first : ℕ) → IsRun words workers pages history printing first
    → IsWithin 1 64 workers × IsWithin 16 1048576 pages × IsWithin 16 1048576 history

abbrev pub GeneratesKeepTheirRanges : Type 0
GeneratesKeepTheirRanges = (words : List Word) (number workers : ℕ) → IsGenerate words number workers → (number < 2 ^ 32) × IsWithin 1 64 workers

abbrev pub FormsKeepTheirRanges : Type 0
FormsKeepTheirRanges = RunsKeepTheirRanges × GeneratesKeepTheirRanges
