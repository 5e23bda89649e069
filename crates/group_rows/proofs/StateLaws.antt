-- The states of the cells of rows, and of two sets of cells.
use Rattle.std.proofs.Common.{◌≡◌, ℕ, ◌+◌, ◌<◌, ◌≤◌, max, List, [], ◌∷◌, ◌++◌, length, get_or, take, Option, Some, None, sym, ap, ◌∙◌, subst, arith, length-append}
use Rattle.std.proofs.lemmas.List.{take_more}
use Rattle.std.proofs.lemmas.Slice.Zip.{AllZip-long}
use Rattle.std.specs.List.{AllZip}
use Rattle.cell_values.specs.declared.datum.Row.{Row}
use Rattle.array_rows.specs.Rows.{put_all}
use Rattle.array_rows.proofs.RowSets.{IsRising-put_all}
use Rattle.logical_plan.specs.declared.parts.Aggregate.{Aggregate}
use Rattle.agg_states.specs.Stands.{StandsFor, AreApart}
use Rattle.agg_states.specs.Inner.Summary.{Summary}
use Rattle.group_rows.specs.Counts.{cells_of}
use Rattle.group_rows.specs.Grouped.{AreStatesOf, IsGroupOf}
use Rattle.group_rows.specs.Inner.Merged.{IsBoth, AreBoth, AreBothOf, IsBothAt}
use Rattle.group_rows.specs.Sets.{both, IsApart}

-- ---- one state after the other

pub zip_push : {A B : Type 0} (R : A → B → Type 0) (xs : List A) (ys : List B) (x : A) (y : B) → AllZip R xs ys → R x y → AllZip R (xs ++ x ∷ []) (ys ++ y ∷ [])
zip_push R [] [] x y h r = (r, tt)
zip_push R [] (b ∷ ys) x y h r = absurd h
zip_push R (a ∷ xs) [] x y h r = absurd h
zip_push R (a ∷ xs) (b ∷ ys) x y h r = (h.0, zip_push R xs ys x y h.1 r)

pub next_states : (gs : List Aggregate) (i : ℕ) (g : Aggregate) (rows : List Row) (old new : List Summary) (s : Summary) → i < length gs → g ≡ get_or gs i g
    → AreStatesOf (take i gs) rows old → StandsFor g rows s → new ≡ old ++ s ∷ [] → AreStatesOf (take (i + 1) gs) rows new
next_states gs i g rows old new s l e h stands n =
    subst (λ (some : List Aggregate). AreStatesOf some rows new) (ap (λ (x : Aggregate). take i gs ++ x ∷ []) e ∙ sym (take_more gs i g l))
    (subst (AreStatesOf (take i gs ++ g ∷ []) rows) (sym n) (zip_push (λ h state. StandsFor h rows state) (take i gs) old g s h stands))

pub cells_push : (ss : List Summary) (s : Summary) → cells_of (ss ++ s ∷ []) ≡ max (cells_of ss) s.cells
cells_push [] s = omega arith
cells_push (t ∷ ss) s =
    let e = cells_push ss s in
    omega (arith, e)

pub next_cells : (ss new : List Summary) (s : Summary) (n : ℕ) → cells_of ss ≤ n → s.cells ≡ n → new ≡ ss ++ s ∷ [] → cells_of new ≤ n
next_cells ss new s n l e f =
    let g : cells_of new ≡ max (cells_of ss) s.cells = ap cells_of f ∙ cells_push ss s in
    omega (arith, g, l, e)

-- ---- states of two sets

both_push : (ss ts us : List Summary) (s t u : Summary) → AreBoth ss ts us → IsBoth s t u → AreBoth (ss ++ s ∷ []) (ts ++ t ∷ []) (us ++ u ∷ [])
both_push [] [] [] s t u h b = (b, tt)
both_push [] [] (z ∷ us) s t u h b = absurd h
both_push [] (y ∷ ts) us s t u h b = absurd h
both_push (x ∷ ss) [] us s t u h b = absurd h
both_push (x ∷ ss) (y ∷ ts) [] s t u h b = absurd h
both_push (x ∷ ss) (y ∷ ts) (z ∷ us) s t u h b = (h.0, both_push ss ts us s t u h.1 b)

pub last_both : (left right ss ts us all : List Summary) (s t u : Summary) → left ≡ ss ++ s ∷ [] → right ≡ ts ++ t ∷ [] → all ≡ us ++ u ∷ [] → AreBothOf ss ts us → IsBoth s t u → AreBothOf left right all
last_both left right ss ts us all s t u el er ea h b =
    λ n.
    let a = ap length el ∙ length-append ss (s ∷ []) in
    let c = ap length er ∙ length-append ts (t ∷ []) in
    let m : length ss ≡ length ts = omega (arith, a, c, n) in
    let whole = both_push ss ts us s t u (h m) b in
    subst (λ (z : List Summary). AreBoth z right all) (sym el)
    (subst (λ (z : List Summary). AreBoth (ss ++ s ∷ []) z all) (sym er)
    (subst (AreBoth (ss ++ s ∷ []) (ts ++ t ∷ [])) (sym ea) whole))

pub last_cells : (left right ss ts us all : List Summary) (s t u : Summary) → left ≡ ss ++ s ∷ [] → right ≡ ts ++ t ∷ [] → all ≡ us ++ u ∷ [] → cells_of us ≤ cells_of ss + cells_of ts → u.cells ≡ s.cells + t.cells
    → cells_of all ≤ cells_of left + cells_of right
last_cells left right ss ts us all s t u el er ea h b =
    let a : cells_of left ≡ max (cells_of ss) s.cells = ap cells_of el ∙ cells_push ss s in
    let c : cells_of right ≡ max (cells_of ts) t.cells = ap cells_of er ∙ cells_push ts t in
    let d : cells_of all ≡ max (cells_of us) u.cells = ap cells_of ea ∙ cells_push us u in
    omega (arith, a, c, d, h, b)

pub absurd_last : (left right ss : List Summary) (s : Summary) (P : Type 0) → left ≡ ss ++ s ∷ [] → right ≡ [] → length left ≡ length right → P
absurd_last left right ss s P el er n =
    let a = ap length el ∙ length-append ss (s ∷ []) in
    let b = ap length er in
    absurd (omega (arith, a, b, n))

pub none_both : (left right left' : List Summary) → left ≡ [] → left' ≡ [] → AreBothOf left right left'
none_both left [] left' el en n =
    subst (λ (z : List Summary). AreBoth z [] left') (sym el) (subst (AreBoth [] []) (sym en) tt)
none_both left (t ∷ right) left' el en n = let a = ap length el in absurd (omega (arith, a, n))

pub no_cells : (states : List Summary) (n : ℕ) → states ≡ [] → cells_of states ≤ n
no_cells states n none = let e = ap cells_of none in omega (arith, e)

states_both : (gs : List Aggregate) (a b : List Row) (ss ts us : List Summary) → AreStatesOf gs a ss → AreStatesOf gs b ts → AreApart a b → AreBoth ss ts us → AreStatesOf gs (put_all a b) us
states_both [] a b [] [] [] h k p m = tt
states_both [] a b [] [] (u ∷ us) h k p m = absurd m
states_both [] a b [] (t ∷ ts) us h k p m = absurd k
states_both [] a b (s ∷ ss) ts us h k p m = absurd h
states_both (g ∷ gs) a b [] ts us h k p m = absurd h
states_both (g ∷ gs) a b (s ∷ ss) [] us h k p m = absurd k
states_both (g ∷ gs) a b (s ∷ ss) (t ∷ ts) [] h k p m = absurd m
states_both (g ∷ gs) a b (s ∷ ss) (t ∷ ts) (u ∷ us) h k p m = (m.0 g a b h.0 k.0 p, states_both gs a b ss ts us h.1 k.1 p m.1)

-- a group of two parts
pub group_both : (gs : List Aggregate) (s t : Option (List Row)) (l r m : Option (List Summary)) → IsGroupOf gs s l → IsGroupOf gs t r → IsApart s t → IsBothAt l r m → IsGroupOf gs (both s t) m
group_both gs None None None None None h k p b = tt
group_both gs None None None None (Some us) h k p b = absurd b
group_both gs None None None (Some ts) m h k p b = absurd k
group_both gs None None (Some ss) r m h k p b = absurd h
group_both gs None (Some c) None None m h k p b = absurd k
group_both gs None (Some c) None (Some ts) None h k p b = absurd b
group_both gs None (Some c) None (Some ts) (Some us) h k p b = (k.0, subst (AreStatesOf gs c) (sym b) k.1)
group_both gs None (Some c) (Some ss) r m h k p b = absurd h
group_both gs (Some a) None None r m h k p b = absurd h
group_both gs (Some a) None (Some ss) None None h k p b = absurd b
group_both gs (Some a) None (Some ss) None (Some us) h k p b = (h.0, subst (AreStatesOf gs a) (sym b) h.1)
group_both gs (Some a) None (Some ss) (Some ts) m h k p b = absurd k
group_both gs (Some a) (Some c) None r m h k p b = absurd h
group_both gs (Some a) (Some c) (Some ss) None m h k p b = absurd k
group_both gs (Some a) (Some c) (Some ss) (Some ts) None h k p b = absurd b
group_both gs (Some a) (Some c) (Some ss) (Some ts) (Some us) h k p b =
    (IsRising-put_all a c k.0, states_both gs a c ss ts us h.1 k.1 p (b (AllZip-long (λ g state. StandsFor g a state) gs ss h.1 ∙ sym (AllZip-long (λ g state. StandsFor g c state) gs ts k.1))))
