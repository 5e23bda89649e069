-- A set of pages that is kept as a list in order.
use Rattle.std.proofs.Common.{◌≡◌, ℕ, ◌+◌, ◌<◌, Bool, true, false, cond, ◌||◌, List, [], ◌∷◌, ◌++◌, length, take, slice_index, refl, sym, ◌∙◌, ap, arith}
use Rattle.std.specs.List.{list_any}
use Rattle.std.specs.Ordering.{nat_cmp, eq_by_cmp}
use Rattle.std.specs.Cmp.{nat_cmp_total}
use Rattle.std.specs.FinSet.{from_list, insert, contains-from_list, contains-insert, same_set, from_list_push, nat_cmp-IsAntisymmetric}
use Rattle.std.proofs.lemmas.List.{take_more}
use Rattle.std.proofs.lemmas.Bool.Decides.{nat_tests}

or_cond : (b t : Bool) → cond b true t ≡ (b || t)
or_cond true t = refl
or_cond false t = refl

flip : (k q : ℕ) → eq_by_cmp nat_cmp k q ≡ eq_by_cmp nat_cmp q k
flip k q = grind (arith, nat_tests)

pub inserted : (old new : List ℕ) (k : ℕ) → ((q : ℕ) → list_any (eq_by_cmp nat_cmp q) new ≡ cond (eq_by_cmp nat_cmp k q) true (list_any (eq_by_cmp nat_cmp q) old))
    → from_list {R = nat_cmp} new ≡ insert (from_list old) k
inserted old new k has = same_set nat_cmp_total nat_cmp-IsAntisymmetric (from_list new) (insert (from_list old) k) (λ q.
    contains-from_list nat_cmp_total new q ∙ has q ∙ or_cond (eq_by_cmp nat_cmp k q) (list_any (eq_by_cmp nat_cmp q) old)
    ∙ ap (λ (b : Bool). b || list_any (eq_by_cmp nat_cmp q) old) (flip k q)
    ∙ sym (contains-insert nat_cmp_total (from_list old) k q ∙ ap (λ (b : Bool). eq_by_cmp nat_cmp q k || b) (contains-from_list nat_cmp_total old q)))

pub first_pages : (pages : List ℕ) (i page : ℕ) → i < length pages → slice_index pages i ≡ page → from_list {R = nat_cmp} (take (i + 1) pages) ≡ insert (from_list (take i pages)) page
first_pages pages i page within is =
    ap (from_list {R = nat_cmp}) (take_more pages i 0 within ∙ ap (λ (p : ℕ). take i pages ++ p ∷ []) is) ∙ from_list_push nat_cmp_total nat_cmp-IsAntisymmetric (take i pages) page
