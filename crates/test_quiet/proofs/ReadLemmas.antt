-- Versions that can be named, and chunks that are read of them.
use Rattle.std.proofs.Common.{◌≡◌, ◌∙◌, ℕ, zero, suc, List, [], ◌∷◌, Option, None, Some, IfSome, true, IsTrue, ap, sym, subst, inl}
use Rattle.std.specs.List.{AllByRecursion, slice_get}
use Rattle.arrayvec.specs.ArrayVec.{ArrayVec}
use Rattle.cell_values.specs.declared.schema.Schema.{Schema}
use Rattle.cell_values.specs.Schemas.{IsValid}
use Rattle.array_geom.specs.declared.chunk.Chunk.{Chunk}
use Rattle.array_geom.specs.Geometry.{overlaps}
use Rattle.array_parts.specs.Placed.{HavePlaces}
use Rattle.logical_plan.specs.declared.names.NameEntry.{NameEntry}
use Rattle.logical_plan.specs.declared.names.Names.{Names}
use Rattle.logical_plan.specs.declared.parts.Leaf.{Leaf}
use Rattle.plan_changes.specs.Changes.{entry_named, is_named}
use Rattle.plan_changes.specs.Stored.{AreStored, IsStored as IsStoredEntry}
use Rattle.plan_changes.specs.Typed.{IsVersionOf}
use Rattle.chunk_source.specs.Source.{IsStored, is_among}
use Rattle.chunk_source.proofs.ReadLemmas.{all_among}
use Rattle.chunk_source.proofs.ReadingLeafLaws.{have_places}
use Rattle.store_state.specs.Calls.{IsLeafOf}
use Rattle.store_state.proofs.Finds.{found_in_all}
use Rattle.test_quiet.specs.Cells.{IsRead, IsVersionIn}

pub leaf_is : (names : Names) (name : List ℕ) (entry : NameEntry) (leaf : Leaf) → entry_named names.arrays name ≡ Some entry → IsVersionIn entry name leaf → IsLeafOf names leaf
leaf_is names name entry leaf found v =
    let named : entry_named names.arrays leaf.name ≡ Some entry = ap (entry_named names.arrays) v.called ∙ found in
    subst (IsVersionOf leaf) (sym named) (v.schema, inl v.stands)

pub leaf_is_valid : (names : Names) (name : List ℕ) (entry : NameEntry) (leaf : Leaf) → AreStored names → entry_named names.arrays name ≡ Some entry → IsVersionIn entry name leaf → IsValid leaf.schema
leaf_is_valid names name entry leaf stored found v = subst IsValid (sym v.schema) (found_in_all IsStoredEntry (is_named name) names.arrays entry stored.each found).holds.schema

item_at : {A : Type 0} (P : A → Type 0) (xs : List A) (i : ℕ) (x : A) → AllByRecursion P xs → slice_get xs i ≡ Some x → P x
item_at P [] i x all e = absurd cc
item_at P (y ∷ xs) zero x all e = let same : y ≡ x = cc in subst P same all.0
item_at P (y ∷ xs) (suc i) x all e = item_at P xs i x all.1 e

-- a chunk's number at a place of a list is among them
pub among_at : (chunks : List (ArrayVec ℕ)) (place : ℕ) (at : ArrayVec ℕ) → slice_get chunks place ≡ Some at → is_among at chunks ≡ true
among_at chunks place at e = item_at (λ k. IsTrue (is_among k chunks)) chunks place at (all_among chunks) e

-- a stored chunk has its own number
pub read_at : (schema : Schema) (at : ArrayVec ℕ) (chunk : Chunk) → IsStored schema at chunk → IsRead schema chunk
read_at schema at chunk s = subst (λ (k : ArrayVec ℕ). IsStored schema k chunk) (sym s.number) s

-- a chunk alone has places
pub alone_has_places : (schema copy : Schema) (margins : List ℕ) (chunk : Chunk) → copy ≡ schema → margins ≡ overlaps schema.dimensions → IsValid schema → IsRead schema chunk →
    HavePlaces copy margins (chunk ∷ [])
alone_has_places schema copy margins chunk e m valid read =
    subst (λ (z : Schema). HavePlaces z margins (chunk ∷ [])) (sym e) (have_places schema margins (chunk.at ∷ []) (chunk ∷ []) m valid (tt, tt) (read, tt))

pub if_some : {A : Type 0} (P Q : A → Type 0) (o : Option A) → ((x : A) → P x → Q x) → IfSome o P → IfSome o Q
if_some P Q None f p = p
if_some P Q (Some x) f p = f x p
