-- A column of the rows in columns.
use Rattle.std.proofs.Common.{◌≡◌, ℕ, zero, suc, ◌<◌, ◌≤◌, List, [], ◌∷◌, ◌++◌, length, map, take, get_or, refl, sym, ap, subst, ◌∙◌, arith, add-one}
use Rattle.std.proofs.lemmas.List.{take_more, take_all, map-append, get_or_read}
use Rattle.cell_values.specs.declared.datum.Datum.{Datum}
use Rattle.cell_values.specs.declared.datum.Datum.TheVariants.{Null}
use Rattle.cell_values.specs.declared.datum.Cell.TheVariants.{Full}
use Rattle.array_rows.specs.Inner.CellsIn.{value_in}
use Rattle.array_rows.specs.RowsIn.{row_at, rows_in, AreLong}

pub value_at : (cs : List (List Datum)) (place k : ℕ) → place < length cs → get_or (row_at k cs) place Null ≡ get_or (get_or cs place []) k Null
value_at [] place k l = absurd (omega arith)
value_at (c ∷ cs) zero k l = refl
value_at (c ∷ cs) (suc place) k l = value_at cs place k (omega arith)

pub long_at : (n : ℕ) (cs : List (List Datum)) (place : ℕ) → place < length cs → AreLong n cs → length (get_or cs place []) ≡ n
long_at n [] place l h = absurd (omega arith)
long_at n (c ∷ cs) zero l h = h.0
long_at n (c ∷ cs) (suc place) l h = long_at n cs place (omega arith) h.1

first_values : (n m : ℕ) (cs : List (List Datum)) (place : ℕ) → place < length cs → AreLong m cs → n ≤ m → map (λ row. get_or row place Null) (rows_in n cs) ≡ take n (get_or cs place [])
first_values zero m cs place l h e = refl
first_values (suc n) m cs place l h e =
    let w : n < length (get_or cs place []) = let f = long_at m cs place l h in omega arith in
    map-append (λ (row : List Datum). get_or row place Null) (rows_in n cs) (row_at n cs ∷ [])
    ∙ ap (λ vs. vs ++ get_or (row_at n cs) place Null ∷ []) (first_values n m cs place l h (omega arith))
    ∙ ap (λ v. take n (get_or cs place []) ++ v ∷ []) (value_at cs place n l)
    ∙ sym (take_more (get_or cs place []) n Null w)
    ∙ ap (λ k. take k (get_or cs place [])) (add-one n)

-- the values in a place of all rows are those of the column there
pub column_of : (n : ℕ) (cs : List (List Datum)) (place : ℕ) → place < length cs → AreLong n cs → map (λ row. get_or row place Null) (rows_in n cs) ≡ get_or cs place []
column_of n cs place l h = first_values n n cs place l h (omega arith) ∙ take_all n (get_or cs place []) (let e = long_at n cs place l h in omega arith)

pub values_of_full : (place : ℕ) (rows : List (List Datum)) → map (value_in place) (map Full rows) ≡ map (λ row. get_or row place Null) rows
values_of_full place [] = refl
values_of_full place (row ∷ rows) = ap (λ vs. get_or row place Null ∷ vs) (values_of_full place rows)

pub column_held : (n : ℕ) (cs columns now : List (List Datum)) (place : ℕ) (c : List Datum) → columns ≡ cs → place < length columns → c ≡ get_or columns place c → AreLong n cs → rows_in n cs ≡ now
    → c ≡ map (λ row. get_or row place Null) now
column_held n cs columns now place c s l e h v =
    get_or_read columns place c l e []
    ∙ ap (λ ds. get_or ds place []) s
    ∙ sym (column_of n cs place (subst (λ ds. place < length ds) s l) h)
    ∙ ap (map (λ (row : List Datum). get_or row place Null)) v
