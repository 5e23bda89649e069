-- Values that are fitted one after the other.
use Rattle.std.proofs.Common.{◌≡◌, ℕ, zero, suc, ◌<◌, List, [], ◌∷◌, ◌++◌, length, get_or, set, take, Option, Some, refl, sym, ap, ◌∙◌, append_assoc, arith}
use Rattle.cell_values.specs.declared.datum.Cell.{Cell}
use Rattle.cell_values.specs.declared.datum.Cell.TheVariants.{Full, Doubt}
use Rattle.cell_values.specs.declared.datum.Datum.{Datum}
use Rattle.cell_values.specs.declared.datum.Datum.TheVariants.{Null}
use Rattle.cell_values.specs.declared.datum.Row.{Row}
use Rattle.cell_values.specs.declared.schema.Attribute.{Attribute}
use Rattle.array_rows.specs.Cellwise.{put_first}
use Rattle.array_rows.specs.Rows.{placed}
use Rattle.logical_plan.specs.CellOps.{fit_cell, fit_rows, fit_value, fit_values}

pub set_same : (xs : List Datum) (i : ℕ) (d : Datum) → i < length xs → set xs i (get_or xs i d) ≡ xs
set_same [] i d l = absurd (omega arith)
set_same (x ∷ xs) zero d l = refl
set_same (x ∷ xs) (suc i) d l = ap (λ (zs : List Datum). x ∷ zs) (set_same xs i d (omega arith))

pub fit_more : (attributes : List Attribute) (values : List Datum) (i : ℕ) (a : Attribute) → i < length attributes → length values ≡ length attributes → a ≡ get_or attributes i a
    → fit_values (take (suc i) attributes) values ≡ set (fit_values (take i attributes) values) i (fit_value a (get_or (fit_values (take i attributes) values) i Null))
fit_more [] values i a l e g = absurd (omega arith)
fit_more (b ∷ attributes) [] i a l e g = absurd (omega arith)
fit_more (b ∷ attributes) (v ∷ values) zero a l e g = ap (λ (c : Attribute). fit_value c v ∷ values) (sym g)
fit_more (b ∷ attributes) (v ∷ values) (suc i) a l e g = ap (λ (vs : List Datum). fit_value b v ∷ vs) (fit_more attributes values i a (omega arith) (omega arith) g)

pub length-fit_values : (attributes : List Attribute) (values : List Datum) (i : ℕ) → length values ≡ length attributes → length (fit_values (take i attributes) values) ≡ length values
length-fit_values attributes values zero e = refl
length-fit_values [] values (suc i) e = refl
length-fit_values (b ∷ attributes) [] (suc i) e = absurd (omega arith)
length-fit_values (b ∷ attributes) (v ∷ values) (suc i) e = ap suc (length-fit_values attributes values i (omega arith))

-- one more row
pub fit_next : (attributes : List Attribute) (fitted fitted' left left' whole : List Row) (row : Row) (cell : Cell) → left ≡ row ∷ [] ++ left' → fit_cell attributes [] row.cell ≡ Some cell → fitted' ≡ fitted ++ placed row.at.items cell ∷ []
    → fitted ++ fit_rows attributes left ≡ whole → fitted' ++ fit_rows attributes left' ≡ whole
fit_next attributes fitted fitted' left left' whole row cell e f p s =
    ap (λ (rs : List Row). rs ++ fit_rows attributes left') p
    ∙ append_assoc fitted (placed row.at.items cell ∷ []) (fit_rows attributes left')
    ∙ ap (λ (o : Option Cell). fitted ++ put_first row.at.items o (fit_rows attributes left')) (sym (anywhere row.cell ∙ f))
    ∙ ap (λ (rs : List Row). fitted ++ fit_rows attributes rs) (sym e)
    ∙ s
  where
    anywhere : (c : Cell) → fit_cell attributes row.at.items c ≡ fit_cell attributes [] c
    anywhere (Full values) = refl
    anywhere (Doubt kind) = refl
