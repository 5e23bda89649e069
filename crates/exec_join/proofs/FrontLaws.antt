-- Lists as functions read them from the front: what is pushed first stands before what the rest gives.
use Rattle.std.proofs.Common.{◌≡◌, ◌∙◌, Bool, true, false, cond, ℕ, ◌+◌, ◌≤◌, ◌<◌, ℤ, pos, List, [], ◌∷◌, ◌++◌, append-nil, append_assoc, length, get_or, Option, None, Some, refl, sym, ap, arith}
use Rattle.std.specs.Prelude.{◌==◌, slice_index_or}
use Rattle.std.specs.List.{list_any}
use Rattle.cell_values.specs.declared.schema.Dimension.{Dimension}
use Rattle.array_geom.proofs.Fronts.{rest, rest_is}
use Rattle.logical_plan.specs.declared.parts.Pair.{Pair}
use Rattle.logical_plan.specs.BoxOps.{items_but}
use Rattle.exec_join.specs.Inner.Pieces.{aside, paired_place, set_aside}

-- ---- the numbers at all other places

pub no_unpaired : (places : List ℕ) (n : ℕ) (number old : List ℕ) → length number < 1 → old ≡ old ++ items_but places n number
no_unpaired places n [] old none = sym (append-nil old)
no_unpaired places n (x ∷ number) old none = absurd (omega (arith, none))

one_kept : (t : Bool) (old : List ℕ) (x : ℕ) (more : List ℕ) → (old ++ cond t [] (x ∷ [])) ++ more ≡ old ++ cond t more (x ∷ more)
one_kept true old x more = append_assoc old [] more
one_kept false old x more = append_assoc old (x ∷ []) more

pub unpaired_pushed : (places : List ℕ) (n : ℕ) (number old more new : List ℕ) (out : Bool) (x : ℕ) → 1 ≤ length number → x ≡ get_or number 0 0
    → out ≡ list_any (λ p. p == n) places → more ≡ old ++ cond out [] (x ∷ []) → new ≡ more ++ items_but places (n + 1) (rest number)
    → new ≡ old ++ items_but places n number
unpaired_pushed places n [] old more new out x some _ _ _ _ = absurd (omega (arith, some))
unpaired_pushed places n (y ∷ number) old more new out x _ is among pushed after =
    let behind = items_but places (n + 1) number in
    let here = list_any (λ p. p == n) places in
    after ∙ ap (λ (l : List ℕ). more ++ items_but places (n + 1) l) (rest_is y number)
    ∙ ap (λ (l : List ℕ). l ++ behind) (pushed ∙ ap (λ (b : Bool). old ++ cond b [] (x ∷ [])) among ∙ ap (λ (z : ℕ). old ++ cond here [] (z ∷ [])) is)
    ∙ one_kept here old y behind

-- ---- the left dimension with which a right one is paired

pub none_paired : (pairs : List Pair) (n : ℕ) → length pairs < 1 → None ≡ paired_place pairs n
none_paired [] n none = refl
none_paired (p ∷ pairs) n none = absurd (omega (arith, none))

-- ---- a right corner

pub no_aside : (pairs : List Pair) (corner : List ℤ) (n : ℕ) (dims : List Dimension) (at old : List ℤ) → length dims < 1
    → old ≡ old ++ set_aside pairs corner n dims at
no_aside pairs corner n [] at old none = sym (append-nil old)
no_aside pairs corner n (d ∷ dims) at old none = absurd (omega (arith, none))

pub aside_ends : (pairs : List Pair) (corner : List ℤ) (n : ℕ) (dims : List Dimension) (at old : List ℤ) → 1 ≤ length dims → length at < 1
    → paired_place pairs n ≡ None → old ≡ old ++ set_aside pairs corner n dims at
aside_ends pairs corner n [] at old some _ _ = absurd (omega (arith, some))
aside_ends pairs corner n (d ∷ dims) [] old _ _ alone =
    sym (ap (λ (o : Option ℕ). old ++ aside o corner [] (set_aside pairs corner (n + 1) dims)) alone ∙ append-nil old)
aside_ends pairs corner n (d ∷ dims) (x ∷ at) old _ none _ = absurd (omega (arith, none))

pub aside_paired : (pairs : List Pair) (corner : List ℤ) (n : ℕ) (dims : List Dimension) (at old more new : List ℤ) (left : ℕ) (z : ℤ) → 1 ≤ length dims
    → paired_place pairs n ≡ Some left → more ≡ old ++ z ∷ [] → new ≡ more ++ set_aside pairs corner (n + 1) (rest dims) at
    → z ≡ slice_index_or corner left (pos 0) → new ≡ old ++ set_aside pairs corner n dims at
aside_paired pairs corner n [] at old more new left z some _ _ _ _ = absurd (omega (arith, some))
aside_paired pairs corner n (d ∷ dims) at old more new left z _ paired pushed after is =
    let behind = set_aside pairs corner (n + 1) dims at in
    after ∙ ap (λ (ds : List Dimension). more ++ set_aside pairs corner (n + 1) ds at) (rest_is d dims)
    ∙ ap (λ (l : List ℤ). l ++ behind) pushed ∙ append_assoc old (z ∷ []) behind ∙ ap (λ (x : ℤ). old ++ x ∷ behind) is
    ∙ sym (ap (λ (o : Option ℕ). old ++ aside o corner at (set_aside pairs corner (n + 1) dims)) paired)

pub aside_alone : (pairs : List Pair) (corner : List ℤ) (n : ℕ) (dims : List Dimension) (at old more new : List ℤ) (z : ℤ) → 1 ≤ length dims → 1 ≤ length at
    → paired_place pairs n ≡ None → more ≡ old ++ z ∷ [] → new ≡ more ++ set_aside pairs corner (n + 1) (rest dims) (rest at)
    → z ≡ get_or at 0 (pos 0) → new ≡ old ++ set_aside pairs corner n dims at
aside_alone pairs corner n [] at old more new z some _ _ _ _ _ = absurd (omega (arith, some))
aside_alone pairs corner n (d ∷ dims) [] old more new z _ some _ _ _ _ = absurd (omega (arith, some))
aside_alone pairs corner n (d ∷ dims) (x ∷ at) old more new z _ _ alone pushed after is =
    let behind = set_aside pairs corner (n + 1) dims at in
    after ∙ ap (λ (ds : List Dimension). more ++ set_aside pairs corner (n + 1) ds (rest (x ∷ at))) (rest_is d dims)
    ∙ ap (λ (l : List ℤ). more ++ set_aside pairs corner (n + 1) dims l) (rest_is x at)
    ∙ ap (λ (l : List ℤ). l ++ behind) pushed ∙ append_assoc old (z ∷ []) behind ∙ ap (λ (y : ℤ). old ++ y ∷ behind) is
    ∙ sym (ap (λ (o : Option ℕ). old ++ aside o corner (x ∷ at) (set_aside pairs corner (n + 1) dims)) alone)
