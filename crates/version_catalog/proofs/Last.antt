-- The name of the last array.
use Rattle.std.proofs.Common.{◌≡◌, ℕ, zero, suc, ◌+◌, ◌-◌, ◌≤◌, ◌<◌, List, [], ◌∷◌, ◌++◌, length, get_or, Option, Some, None, Result, Ok, refl, sym, ap, subst, ◌∙◌, arith}
use Rattle.version_catalog.specs.declared.rules.catalog.CatalogArray.{CatalogArray}
use Rattle.file_items.specs.Items.{repeat, Stopped}
use Rattle.file_items.specs.declared.bytes.stop.Stop.{Stop}
use Rattle.file_items.proofs.Loop.{behind, one_more, stops_here}
use Rattle.version_catalog.specs.Table.{array_at, next_array, name_in, last_name}

last_name_at : (arrays : List CatalogArray) (d : CatalogArray) (i : ℕ) → length arrays ≡ suc i → last_name arrays ≡ Some (get_or arrays i d).entry.name
last_name_at [] d i e = absurd (omega arith)
last_name_at (array ∷ []) d zero e = refl
last_name_at (array ∷ []) d (suc i) e = absurd (omega arith)
last_name_at (array ∷ next ∷ arrays) d zero e = absurd (omega arith)
last_name_at (array ∷ next ∷ arrays) d (suc i) e = last_name_at (next ∷ arrays) d i (omega arith)

pub last_is : (arrays items : List CatalogArray) (last : CatalogArray) (name : List ℕ) → items ≡ arrays → 1 ≤ length items → last ≡ get_or items (length items - 1) last → name ≡ last.entry.name → Some name ≡ last_name arrays
last_is arrays items last name same there is e =
    sym (ap last_name (sym same) ∙ last_name_at items last (length items - 1) (omega arith) ∙ ap (λ (array : CatalogArray). Some array.entry.name) (sym is) ∙ ap (λ (n : List ℕ). Some n) (sym e))

pub none_last : (arrays items : List CatalogArray) → items ≡ arrays → length items < 1 → None ≡ last_name arrays
none_last arrays [] same short = ap last_name same
none_last arrays (x ∷ items) same short = absurd (omega (arith, short))

pub last_name_push : (arrays : List CatalogArray) (array : CatalogArray) → last_name (arrays ++ array ∷ []) ≡ Some array.entry.name
last_name_push [] array = refl
last_name_push (first ∷ []) array = refl
last_name_push (first ∷ next ∷ arrays) array = last_name_push (next ∷ arrays) array

-- the loop over the arrays
pub array_more : (seen : Option (List ℕ)) (arrays new : List CatalogArray) (count i : ℕ) (bytes : List ℕ) (e : CatalogArray) (rest : List ℕ) (all : Result (List CatalogArray × List ℕ) ℕ)
    → seen ≡ last_name arrays → new ≡ arrays ++ e ∷ [] → i < count → array_at seen bytes ≡ Ok (e, rest)
    → behind arrays (repeat next_array name_in (count - i) (last_name arrays) bytes) ≡ all
    → behind new (repeat next_array name_in (count - (i + 1)) (last_name new) rest) ≡ all
array_more seen arrays new count i bytes e rest all s n lt read before =
    let h : array_at (last_name arrays) bytes ≡ Ok (e, rest) = subst (λ (o : Option (List ℕ)). array_at o bytes ≡ Ok (e, rest)) s read in
    subst (λ (es : List CatalogArray). behind es (repeat next_array name_in (count - (i + 1)) (last_name es) rest) ≡ all) (sym n)
    (subst (λ (o : Option (List ℕ)). behind (arrays ++ e ∷ []) (repeat next_array name_in (count - (i + 1)) o rest) ≡ all) (sym (last_name_push arrays e))
    (one_more next_array name_in (last_name arrays) arrays count i (count - (i + 1)) bytes e rest all lt refl h before))

pub array_stops : (seen : Option (List ℕ)) (stop : Stop) (arrays : List CatalogArray) (count i : ℕ) (bytes : List ℕ) (all : Result (List CatalogArray × List ℕ) ℕ)
    → seen ≡ last_name arrays → i < count → Stopped stop (array_at seen bytes)
    → behind arrays (repeat next_array name_in (count - i) (last_name arrays) bytes) ≡ all → Stopped stop all
array_stops seen stop arrays count i bytes all s lt stopped before =
    stops_here next_array name_in (last_name arrays) stop arrays count i (count - (i + 1)) bytes all lt refl (subst (λ (o : Option (List ℕ)). Stopped stop (array_at o bytes)) s stopped) before
