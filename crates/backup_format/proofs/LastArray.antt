-- The name of the last array, and the loop over the arrays.
use Rattle.std.proofs.Common.{◌≡◌, ℕ, zero, suc, ◌+◌, ◌-◌, ◌≤◌, ◌<◌, List, [], ◌∷◌, ◌++◌, length, get_or, Option, Some, Result, Ok, refl, sym, ap, subst, ◌∙◌, arith}
use Rattle.file_items.specs.Items.{repeat, Stopped}
use Rattle.file_items.specs.declared.bytes.stop.Stop.{Stop}
use Rattle.file_items.proofs.Loop.{behind, one_more, stops_here}
use Rattle.backup_format.specs.Pieces.{PiecesArray}
use Rattle.backup_format.specs.Table.{array_at, next_array, name_in}
use Rattle.backup_format.specs.declared.arrays.ArrayAt.{ArrayAt}
use Rattle.backup_format.specs.PiecePlaces.{array_in, arrays_in, last_name}
use Rattle.backup_format.proofs.Ends.{map_push}

last_name_at : (arrays : List ArrayAt) (d : ArrayAt) (i : ℕ) → length arrays ≡ suc i → last_name arrays ≡ Some (get_or arrays i d).name
last_name_at [] d i e = absurd (omega arith)
last_name_at (array ∷ []) d zero e = refl
last_name_at (array ∷ []) d (suc i) e = absurd (omega arith)
last_name_at (array ∷ next ∷ arrays) d zero e = absurd (omega arith)
last_name_at (array ∷ next ∷ arrays) d (suc i) e = last_name_at (next ∷ arrays) d i (omega arith)

pub last_is : (arrays items : List ArrayAt) (last : ArrayAt) (name : List ℕ) → items ≡ arrays → 1 ≤ length items → last ≡ get_or items (length items - 1) last → name ≡ last.name → Some name ≡ last_name arrays
last_is arrays items last name same there is e =
    sym (ap last_name (sym same) ∙ last_name_at items last (length items - 1) (omega arith) ∙ ap (λ (array : ArrayAt). Some array.name) (sym is) ∙ ap (λ (n : List ℕ). Some n) (sym e))

pub last_name_push : (arrays : List ArrayAt) (array : ArrayAt) → last_name (arrays ++ array ∷ []) ≡ Some array.name
last_name_push [] array = refl
last_name_push (first ∷ []) array = refl
last_name_push (first ∷ next ∷ arrays) array = last_name_push (next ∷ arrays) array

pub array_more : (whole : List ℕ) (seen : Option (List ℕ)) (arrays new : List ArrayAt) (count i : ℕ) (bytes : List ℕ) (e : ArrayAt) (rest : List ℕ) (all : Result (List PiecesArray × List ℕ) ℕ)
    → seen ≡ last_name arrays → new ≡ arrays ++ e ∷ [] → i < count → array_at seen bytes ≡ Ok (array_in whole e, rest)
    → behind (arrays_in whole arrays) (repeat next_array name_in (count - i) (last_name arrays) bytes) ≡ all
    → behind (arrays_in whole new) (repeat next_array name_in (count - (i + 1)) (last_name new) rest) ≡ all
array_more whole seen arrays new count i bytes e rest all s n lt read before =
    let h : array_at (last_name arrays) bytes ≡ Ok (array_in whole e, rest) = subst (λ (o : Option (List ℕ)). array_at o bytes ≡ Ok (array_in whole e, rest)) s read in
    let more = one_more next_array name_in (last_name arrays) (arrays_in whole arrays) count i (count - (i + 1)) bytes (array_in whole e) rest all lt refl h before in
    subst (λ (es : List ArrayAt). behind (arrays_in whole es) (repeat next_array name_in (count - (i + 1)) (last_name es) rest) ≡ all) (sym n)
    (subst (λ (o : Option (List ℕ)). behind (arrays_in whole (arrays ++ e ∷ [])) (repeat next_array name_in (count - (i + 1)) o rest) ≡ all) (sym (last_name_push arrays e))
    (subst (λ (had : List PiecesArray). behind had (repeat next_array name_in (count - (i + 1)) (Some e.name) rest) ≡ all) (sym (map_push (array_in whole) arrays e)) more))

pub array_stops : (seen : Option (List ℕ)) (stop : Stop) (had : List PiecesArray) (arrays : List ArrayAt) (count i : ℕ) (bytes : List ℕ) (all : Result (List PiecesArray × List ℕ) ℕ)
    → seen ≡ last_name arrays → i < count → Stopped stop (array_at seen bytes)
    → behind had (repeat next_array name_in (count - i) (last_name arrays) bytes) ≡ all → Stopped stop all
array_stops seen stop had arrays count i bytes all s lt stopped before =
    stops_here next_array name_in (last_name arrays) stop had count i (count - (i + 1)) bytes all lt refl (subst (λ (o : Option (List ℕ)). Stopped stop (array_at o bytes)) s stopped) before
