-- What reading and decoding a payload answers.
use Rattle.std.proofs.Common.{◌≡◌, ◌∙◌, ℕ, List, length, Option, None, Some, IfSome, Result, Ok, Err, refl, ap, sym}
use Rattle.cell_values.specs.declared.schema.Schema.{Schema}
use Rattle.array_geom.specs.declared.chunk.Chunk.{Chunk}
use Rattle.file_items.specs.Items.{wrong_at}
use Rattle.page_chain.specs.Pages.{page_size, blob, first_past}
use Rattle.chunk_map.specs.declared.directory.DirEntry.{DirEntry}
use Rattle.chunk_rle.specs.Decoding.{Answers}
use Rattle.chunk_rle.specs.declared.decoding.BadPayload.{BadPayload}
use Rattle.chunk_rle.specs.declared.decoding.BadPayload.TheVariants.{At, Memory as OutOfMemory}
use Rattle.store_state.specs.Calls.{payload_in, spelled_by, IsRead, IsWhole}
use Rattle.store_state.specs.Inner.Decoded.{IsDecoded, IsToldBy}
use Rattle.store_state.specs.declared.state.fault.ReadFault.{ReadFault}
use Rattle.store_state.specs.declared.state.fault.ReadFault.TheVariants.{Disk, Damaged, Memory}

pub if_some : {A : Type 0} (P Q : A → Type 0) (o : Option A) → ((x : A) → P x → Q x) → IfSome o P → IfSome o Q
if_some P Q None f h = tt
if_some P Q (Some x) f h = f x h

pub wrong_is : (total at : ℕ) (r : Result Chunk ℕ) → wrong_at total r ≡ Some at → (wrong : ℕ) × (r ≡ Err wrong)
wrong_is total at (Ok chunk) e = absurd cc
wrong_is total at (Err wrong) e = (wrong, refl)

not_whole : (file : List ℕ) (schema : Schema) (entry : DirEntry) (wrong : ℕ) → payload_in file schema entry ≡ Err wrong → IsWhole file schema entry → ⊥
not_whole file schema entry wrong e whole = let both : Err wrong ≡ Ok whole.chunk = sym e ∙ whole.spells in cc

-- bytes that were read are decoded
pub decoded_read : (file : List ℕ) (schema : Schema) (entry : DirEntry) (bytes : List ℕ) (r : Result Chunk ReadFault) → first_past page_size file entry.pages ≡ None →
    bytes ≡ blob page_size file entry.pages entry.length → IsDecoded schema entry bytes r → IsRead file schema entry r
decoded_read file schema entry bytes (Ok chunk) within is d = (within, ap (spelled_by schema entry) (sym is) ∙ d)
decoded_read file schema entry bytes (Err Disk) within is d = tt
decoded_read file schema entry bytes (Err (Damaged page)) within is d = (d.0, λ whole. not_whole file schema entry d.1 (ap (spelled_by schema entry) (sym is) ∙ d.2) whole)
decoded_read file schema entry bytes (Err Memory) within is d = tt

pub decoded_told : (schema : Schema) (entry : DirEntry) (bytes : List ℕ) (fault : ReadFault) → IsDecoded schema entry bytes (Err fault) → IsToldBy entry fault
decoded_told schema entry bytes Disk d = tt
decoded_told schema entry bytes (Damaged page) d = d.0
decoded_told schema entry bytes Memory d = tt

-- a payload of which a page passes the end isn't whole
pub past_end : (file : List ℕ) (schema : Schema) (entry : DirEntry) (page : ℕ) → first_past page_size file entry.pages ≡ Some page → IsWhole file schema entry → ⊥
past_end file schema entry page e whole = let both : Some page ≡ None = sym e ∙ whole.within in cc

-- bytes that are told wrong at an offset spell no chunk
pub told_wrong : (r : Result Chunk BadPayload) (fault : BadPayload) (bytes : List ℕ) (reading : Result Chunk ℕ) (at : ℕ) → r ≡ Err fault → fault ≡ At at → Answers (λ (x : Chunk). x) r bytes reading →
    (wrong : ℕ) × (reading ≡ Err wrong)
told_wrong (Ok chunk) fault bytes reading at e f a = absurd cc
told_wrong (Err OutOfMemory) fault bytes reading at e f a = let no : OutOfMemory ≡ At at = (let same : OutOfMemory ≡ fault = cc in same) ∙ f in absurd cc
told_wrong (Err (At other)) fault bytes reading at e f a = wrong_is (length bytes) other reading a
