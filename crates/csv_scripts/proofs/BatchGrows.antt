-- A batch with one more record.
use Rattle.std.proofs.Common.{◌≡◌, ℕ, ◌+◌, ◌<◌, true, List, [], ◌∷◌, ◌++◌, map, length, refl, sym, ap, ◌∙◌, arith, append_assoc}
use Rattle.std.specs.Prelude.{if◌then◌else◌, ◌&&◌}
use Rattle.std.specs.List.{join_with_byte}
use Rattle.std.proofs.lemmas.Bool.{lt-ltb, and_from}
use Rattle.std.proofs.lemmas.List.Folds.{list_all-append}
use Rattle.std.proofs.lemmas.List.{map-append, length-append}
use Rattle.cell_values.specs.declared.datum.Datum.{Datum}
use Rattle.schema_grammar.specs.SchemaBytes.{separator}
use Rattle.csv_scripts.specs.Literal.{element_bytes, are_spellable, are_all_spellable}
use Rattle.csv_scripts.specs.Batches.{IsOpenLiteral, open_bytes}

joined_more : (x : List ℕ) (xs : List (List ℕ)) (y : List ℕ) → join_with_byte 44 ((x ∷ xs) ++ y ∷ []) ≡ join_with_byte 44 (x ∷ xs) ++ 44 ∷ y
joined_more x [] y = refl
joined_more x (z ∷ xs) y = ap (λ l. x ++ (44 ∷ l)) (joined_more z xs y) ∙ sym (append_assoc x (44 ∷ join_with_byte 44 (z ∷ xs)) (44 ∷ y))

some_separator : (n : ℕ) → 0 < n → separator n ≡ 44 ∷ []
some_separator n h = ap (λ b. if b then 44 ∷ [] else []) (lt-ltb 0 n h)

open_more : (rows : List (List Datum)) (values : List Datum) → open_bytes rows ++ separator (length rows) ++ element_bytes values ≡ open_bytes (rows ++ values ∷ [])
open_more [] values = refl
open_more (r ∷ rs) values =
    let joined = join_with_byte 44 (map element_bytes (r ∷ rs)) in
    ap (λ l. open_bytes (r ∷ rs) ++ l ++ element_bytes values) (some_separator (length (r ∷ rs)) (omega arith))
    ∙ ap (λ l. 91 ∷ l) (append_assoc joined (44 ∷ []) (element_bytes values)
    ∙ sym (joined_more (element_bytes r) (map element_bytes rs) (element_bytes values))
    ∙ ap (join_with_byte 44) (sym (map-append element_bytes (r ∷ rs) (values ∷ []))))

pub pushed : (rows : List (List Datum)) (values : List Datum) (old mid new buffer : List ℕ) (count : ℕ) → IsOpenLiteral old count rows → mid ≡ old ++ separator count
    → buffer ≡ element_bytes values → new ≡ mid ++ buffer → are_spellable values ≡ true → IsOpenLiteral new (count + 1) (rows ++ values ∷ [])
pushed rows values old mid new buffer count (e, f, i) g s h a =
    let text : new ≡ open_bytes rows ++ separator (length rows) ++ element_bytes values
    = h ∙ ap (λ l. mid ++ l) s ∙ ap (λ l. l ++ element_bytes values) (g ∙ ap (λ l. l ++ separator count) e ∙ ap (λ n. open_bytes rows ++ separator n) f) in
    let said : are_all_spellable (rows ++ values ∷ []) ≡ true
    = list_all-append are_spellable rows (values ∷ []) ∙ and_from (are_all_spellable rows) (are_spellable values && true) i (ap (λ b. b && true) a) in
    (text ∙ open_more rows values, ap (λ n. n + 1) f ∙ sym (length-append rows (values ∷ [])), said)
