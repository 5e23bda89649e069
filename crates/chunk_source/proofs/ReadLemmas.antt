-- Chunks that are read one after the other.
use Rattle.std.proofs.Common.{◌≡◌, ℕ, ◌+◌, ◌<◌, ◌≤◌, suc, true, List, [], ◌∷◌, ◌++◌, length, map, get_or, take, drop, Some, Result, Ok, Err, OnErr, ◌⊎◌, inl, inr, refl, sym, ap, ◌∙◌, subst, append_assoc, arith}
use Rattle.std.specs.List.{AllByRecursion, AllZip}
use Rattle.std.specs.Prelude.{IsTrue}
use Rattle.std.proofs.lemmas.List.{take_more, take-append-drop, map-append, append-nil}
use Rattle.std.proofs.Math.Seq.{drop-cons}
use Rattle.arrayvec.specs.ArrayVec.{ArrayVec}
use Rattle.array_geom.specs.declared.chunk.Chunk.{Chunk}
use Rattle.array_geom.specs.Link.{is_listed}
use Rattle.array_parts.proofs.PartLemmas.{each_listed}
use Rattle.logical_plan.specs.declared.parts.Leaf.{Leaf}
use Rattle.logical_plan.specs.Meaning.{Database}
use Rattle.chunk_source.specs.declared.memory.leaf_array.LeafArray.{LeafArray}
use Rattle.chunk_source.specs.declared.sources.asked.Asked.{Asked}
use Rattle.chunk_source.specs.InMemory.{MemoryChunks, memory_state, sure_state}
use Rattle.chunk_source.specs.Source.{SourceState, Reads, version_chunks, listed, numbers_of, is_among, IsStored, IsChunkIn, Keeps, AsksFront, asks}

-- ---- states

pub keeps_still : (s : SourceState) → Keeps s s
keeps_still s = record { stored = refl; chunks = refl; tells = λ db. (λ t. t, λ t. t); later = omega arith }

pub keeps_on : (a b c : SourceState) → Keeps a b → Keeps b c → Keeps a c
keeps_on a b c h k = record {
  stored = k.stored ∙ h.stored;
  chunks = k.chunks ∙ h.chunks;
  tells = λ db. (λ t. (h.tells db).0 ((k.tells db).0 t), λ t. (k.tells db).1 ((h.tells db).1 t));
  later = let p = h.later in let q = k.later in omega (arith, p, q);
}

-- what was asked for is none of the arrays
pub keeps_asked : (arrays : List LeafArray) (old new : List Asked) → Keeps (sure_state (record { arrays = arrays; asked = old })) (sure_state (record { arrays = arrays; asked = new }))
keeps_asked arrays old new = record { stored = refl; chunks = refl; tells = λ db. (λ t. t, λ t. t); later = omega arith }

-- a source in memory, some of whose calls fail
pub keeps_turned : (old new : MemoryChunks) → Keeps (sure_state old.sure) (sure_state new.sure) → old.turns.faults ≤ new.turns.faults → Keeps (memory_state old) (memory_state new)
keeps_turned old new k later = record { stored = k.stored; chunks = k.chunks; tells = k.tells; later = later }

pub reads_still : (a b : SourceState) (leaf : Leaf) → Keeps a b → Reads a leaf → Reads b leaf
reads_still a b leaf k r = subst (λ stored. (leaf.version ≡ 0) ⊎ (stored leaf.name leaf.version ≡ Some leaf.schema)) (sym k.stored) r

pub listed_still : (a b : SourceState) (leaf : Leaf) → Keeps a b → listed b leaf ≡ listed a leaf
listed_still a b leaf k = ap (λ chunks. version_chunks chunks leaf.name leaf.version) k.chunks

-- ---- chunks

abbrev pub AreTold : SourceState → Leaf → List Chunk → Type 0
AreTold source leaf chunks = (db : Database) → source.tells db → AllByRecursion (IsChunkIn db leaf) chunks

pub record HasRead (first now : SourceState) (number : ℕ) (leaf : Leaf) (all : List (ArrayVec ℕ)) (i : ℕ) (read : List Chunk) : Type 0 where
  pub kept : Keeps first now
  pub damaged : now.damaged ≡ first.damaged
  pub asked : now.asked ≡ first.asked ++ map (asks number) (take i all)
  pub stored : AllZip (IsStored leaf.schema) (take i all) read
  pub told : AreTold first leaf read
  pub left : AllByRecursion (λ at. IsTrue (is_among at (listed first leaf))) (drop i all)

all_push : {A : Type 0} (P : A → Type 0) (xs : List A) (x : A) → AllByRecursion P xs → P x → AllByRecursion P (xs ++ x ∷ [])
all_push P [] x a p = (p, tt)
all_push P (y ∷ xs) x a p = (a.0, all_push P xs x a.1 p)

-- what is asked for, in two parts
parts : (number : ℕ) (all : List (ArrayVec ℕ)) (i : ℕ) → map (asks number) all ≡ map (asks number) (take i all) ++ map (asks number) (drop i all)
parts number all i = ap (map (asks number)) (sym (take-append-drop i all)) ∙ map-append (asks number) (take i all) (drop i all)

zip_push : {A B : Type 0} (R : A → B → Type 0) (xs : List A) (ys : List B) (x : A) (y : B) → AllZip R xs ys → R x y → AllZip R (xs ++ x ∷ []) (ys ++ y ∷ [])
zip_push R [] [] x y a r = (r, tt)
zip_push R [] (z ∷ ys) x y a r = absurd a
zip_push R (z ∷ xs) [] x y a r = absurd a
zip_push R (z ∷ xs) (w ∷ ys) x y a r = (a.0, zip_push R xs ys x y a.1 r)

pub nothing_read : (first : SourceState) (number : ℕ) (leaf : Leaf) (all : List (ArrayVec ℕ)) → AllByRecursion (λ at. IsTrue (is_among at (listed first leaf))) all → HasRead first first number leaf all 0 []
nothing_read first number leaf all a = record { kept = keeps_still first; damaged = refl; asked = sym (append-nil first.asked); stored = tt; told = λ db t. tt; left = a }

-- the next chunk's number is among the listed ones
pub next_listed : (first now : SourceState) (number : ℕ) (leaf : Leaf) (all : List (ArrayVec ℕ)) (i : ℕ) (read : List Chunk) (at : ArrayVec ℕ) → HasRead first now number leaf all i read → i < length all → at ≡ get_or all i at
    → IsTrue (is_among at (listed now leaf))
next_listed first now number leaf all i read at h lt e =
    let a : AllByRecursion (λ at. IsTrue (is_among at (listed first leaf))) (get_or all i at ∷ drop (suc i) all) = subst (AllByRecursion (λ at. IsTrue (is_among at (listed first leaf)))) (drop-cons all i at lt) h.left in
    let b : IsTrue (is_among at (listed first leaf)) = subst (λ k. IsTrue (is_among k (listed first leaf))) (sym e) a.0 in
    subst (λ ks. IsTrue (is_among at ks)) (sym (listed_still first now leaf h.kept)) b

pub read_more : (first before now : SourceState) (number : ℕ) (leaf : Leaf) (all : List (ArrayVec ℕ)) (i : ℕ) (read : List Chunk) (at : ArrayVec ℕ) (chunk : Chunk) → HasRead first before number leaf all i read → i < length all → at ≡ get_or all i at
    → IsStored leaf.schema at chunk → ((db : Database) → before.tells db → IsChunkIn db leaf chunk)
    → now.asked ≡ before.asked ++ asks number at ∷ [] → Keeps before now → now.damaged ≡ before.damaged
    → HasRead first now number leaf all (i + 1) (read ++ chunk ∷ [])
read_more first before now number leaf all i read at chunk h lt e stored told asked kept damaged =
    let more : take (i + 1) all ≡ take i all ++ at ∷ [] = take_more all i at lt ∙ ap (λ x. take i all ++ x ∷ []) (sym e) in
    record {
      kept = keeps_on first before now h.kept kept;
      damaged = damaged ∙ h.damaged;
      asked = asked ∙ ap (λ a. a ++ asks number at ∷ []) h.asked ∙ append_assoc first.asked (map (asks number) (take i all)) (asks number at ∷ [])
          ∙ ap (λ a. first.asked ++ a) (sym (map-append (asks number) (take i all) (at ∷ []))) ∙ ap (λ ks. first.asked ++ map (asks number) ks) (sym more);
      stored = subst (λ ks. AllZip (IsStored leaf.schema) ks (read ++ chunk ∷ [])) (sym more) (zip_push (IsStored leaf.schema) (take i all) read at chunk h.stored stored);
      told = λ db t. all_push (IsChunkIn db leaf) read chunk (h.told db t) (told db ((h.kept.tells db).1 t));
      left = let a : AllByRecursion (λ at. IsTrue (is_among at (listed first leaf))) (get_or all i at ∷ drop (suc i) all) = subst (AllByRecursion (λ at. IsTrue (is_among at (listed first leaf)))) (drop-cons all i at lt) h.left in
          let one : suc i ≡ i + 1 = omega arith in
          subst (λ (n : ℕ). AllByRecursion (λ k. IsTrue (is_among k (listed first leaf))) (drop n all)) one a.1;
    }

-- ---- what was asked for where a call failed

pub on_err : {T E : Type 0} (answer : Result T E) (P : Type 0) → P → OnErr answer P
on_err (Ok x) P holds = tt
on_err (Err fault) P holds = holds

pub asked_none : (all : List Asked) (old new : SourceState) → new.asked ≡ old.asked → AsksFront all old new
asked_none all old new same = record { done = []; rest = all; in_order = refl; asked = same ∙ sym (append-nil old.asked) }

pub asked_all : (all : List Asked) (old new : SourceState) → new.asked ≡ old.asked ++ all → AsksFront all old new
asked_all all old new is = record { done = all; rest = []; in_order = sym (append-nil all); asked = is }

-- where nothing was asked for before
pub front_after : (all there : List Asked) (old mid new : SourceState) → all ≡ there → mid.asked ≡ old.asked → AsksFront all mid new → AsksFront there old new
front_after all there old mid new e same front = record {
  done = front.done;
  rest = front.rest;
  in_order = sym e ∙ front.in_order;
  asked = front.asked ∙ ap (λ a. a ++ front.done) same;
}

pub asked_after : (all there : List Asked) (old mid new : SourceState) → all ≡ there → mid.asked ≡ old.asked → new.asked ≡ mid.asked ++ all → new.asked ≡ old.asked ++ there
asked_after all there old mid new e same is = is ∙ ap (λ a. a ++ all) same ∙ ap (λ a. old.asked ++ a) e

-- the call for the chunk behind some first ones failed
pub front_at : (first before now : SourceState) (number : ℕ) (all : List (ArrayVec ℕ)) (i : ℕ) (at : ArrayVec ℕ) → i < length all → at ≡ get_or all i at → before.asked ≡ first.asked ++ map (asks number) (take i all)
    → (now.asked ≡ before.asked) ⊎ (now.asked ≡ before.asked ++ asks number at ∷ []) → AsksFront (map (asks number) all) first now
front_at first before now number all i at lt e so_far (inl none) = record {
  done = map (asks number) (take i all);
  rest = map (asks number) (drop i all);
  in_order = parts number all i;
  asked = none ∙ so_far;
}
front_at first before now number all i at lt e so_far (inr one) =
    let more : take (i + 1) all ≡ take i all ++ at ∷ [] = take_more all i at lt ∙ ap (λ x. take i all ++ x ∷ []) (sym e) in
    record {
      done = map (asks number) (take (i + 1) all);
      rest = map (asks number) (drop (i + 1) all);
      in_order = parts number all (i + 1);
      asked = one ∙ ap (λ a. a ++ asks number at ∷ []) so_far ∙ append_assoc first.asked (map (asks number) (take i all)) (asks number at ∷ [])
          ∙ ap (λ a. first.asked ++ a) (sym (map-append (asks number) (take i all) (at ∷ []))) ∙ ap (λ ks. first.asked ++ map (asks number) ks) (sym more);
    }

-- what was read so far was asked for, and the next chunk too
pub front_of : (first now : SourceState) (number : ℕ) (leaf : Leaf) (all : List (ArrayVec ℕ)) (i : ℕ) (read : List Chunk) → HasRead first now number leaf all i read → AsksFront (map (asks number) all) first now
front_of first now number leaf all i read h = record {
  done = map (asks number) (take i all);
  rest = map (asks number) (drop i all);
  in_order = parts number all i;
  asked = h.asked;
}

-- ---- lists

all_unmapped : {A B : Type 0} (P : B → Type 0) (f : A → B) (xs : List A) → AllByRecursion P (map f xs) → AllByRecursion (λ x. P (f x)) xs
all_unmapped P f [] a = tt
all_unmapped P f (x ∷ xs) a = (a.0, all_unmapped P f xs a.1)

-- each chunk of a list is among its chunks
pub all_among : (chunks : List (ArrayVec ℕ)) → AllByRecursion (λ at. IsTrue (is_among at chunks)) chunks
all_among chunks = all_unmapped (λ k. is_listed k (numbers_of chunks) ≡ true) (λ at. at.items) chunks (each_listed (numbers_of chunks))

-- the chunks that a source lists are among those that it lists later
pub listed_among : (a b : SourceState) (leaf : Leaf) (chunks : List (ArrayVec ℕ)) → Keeps a b → chunks ≡ listed a leaf → AllByRecursion (λ at. IsTrue (is_among at (listed b leaf))) chunks
listed_among a b leaf chunks k e = subst (λ (z : List (ArrayVec ℕ)). AllByRecursion (λ at. IsTrue (is_among at z)) chunks) (e ∙ sym (listed_still a b leaf k)) (all_among chunks)
