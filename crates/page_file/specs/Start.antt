-- The file of an empty database.
use Rattle.std.specs.Prelude.{◌≡◌, ◌≢◌, ℕ, ◌*◌, List, [], ◌∷◌, length, Result, Ok, Err}
use Rattle.page_chain.specs.Counts.{Rose}
use Rattle.page_chain.specs.Disk.{DiskState}
use Rattle.page_chain.specs.Opens.{OpensAs}
use Rattle.page_chain.specs.declared.slots.layout.sides.Side.TheVariants.{A}
use Rattle.page_chain.specs.declared.slots.layout.sides.Format.TheVariants.{Two}
use Rattle.page_chain.specs.declared.slots.layout.roots.OpenRoot.{OpenRoot}
use Rattle.page_chain.specs.Pages.{page_size}
use Rattle.page_chain.specs.Chains.{chain, chain_bytes}
use Rattle.page_file.specs.declared.making.fault.InitFault.{InitFault}
use Rattle.page_file.specs.declared.making.fault.InitFault.TheVariants.{Disk, NotEmpty, Memory}

-- slot A, open with sequence 1 on a catalogue of 4 bytes in page 1, and with the log page 2
abbrev pub first_root : OpenRoot
first_root = record { side = A; format = Two; root = record { sequence = 1; length = 4; first = 1; log = 2 } }

-- Three pages that open as the first root with no record, whose catalogue is the number 0, of no array.
pub record IsEmptyDatabase (file : List ℕ) : Type 0 where
  pub size : length file ≡ 3 * 4096
  pub opens : OpensAs first_root [] file
  pub catalogue : chain page_size file (2 ∷ []) 0 1 4 ≡ Ok (1 ∷ [])
  pub none : chain_bytes page_size file (1 ∷ []) 4 ≡ 0 ∷ 0 ∷ 0 ∷ 0 ∷ []

-- Only an empty file is made a database.
abbrev pub IsInit : List ℕ → Result (Unit {0}) InitFault → Type 0
IsInit file (Ok u) = length file ≡ 0
IsInit file (Err Disk) = Unit {0}
IsInit file (Err (NotEmpty count)) = (count ≡ length file) × (count ≢ 0)
IsInit file (Err Memory) = Unit {0}

-- The disk's fault, or want of memory, comes only where its count rose.
abbrev pub HasCause : InitFault → DiskState → DiskState → Type 0
HasCause Disk old new = Rose old.faults new.faults
HasCause (NotEmpty count) old new = Unit {0}
HasCause Memory old new = Rose old.wants new.wants

-- the disk failed, or found no memory
abbrev pub IsDeviceFault : InitFault → DiskState → DiskState → Type 0
IsDeviceFault Disk old new = Rose old.faults new.faults
IsDeviceFault (NotEmpty count) old new = ⊥
IsDeviceFault Memory old new = Rose old.wants new.wants

-- what holds where the file was not empty
abbrev pub WhereNotEmpty : InitFault → Type 0 → Type 0
WhereNotEmpty Disk kept = Unit {0}
WhereNotEmpty (NotEmpty count) kept = kept
WhereNotEmpty Memory kept = Unit {0}
