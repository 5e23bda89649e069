-- The worked entries are allowed over their base, and so are those up to the first reap.
use Rattle.std.proofs.Common.{◌≡◌, ◌∙◌, ap, sym, subst, refl, List, [], ◌∷◌, ◌++◌, take, reverse, IsTrue, Result, Ok, Err, OnOk}
use Rattle.event_core.specs.declared.entry.Entry.{Entry}
use Rattle.event_core.specs.declared.state.Core.{Core}
use Rattle.event_core.specs.Allowed.{IsBase, is_allowed}
use Rattle.event_core.specs.Worked.{worked_base, worked, worked_on}
use Rattle.event_core.proofs.Worked.{base_is, allowed_is}

pub is_base : (base : Core) → base ≡ worked_base → IsBase base
is_base base b = subst IsBase (sym b) base_is

-- what is computed for the worked values holds of equal ones
allowed_as : (base : Core) (entries known : List Entry) → base ≡ worked_base → entries ≡ known → IsTrue (is_allowed worked_base (reverse known)) → IsTrue (is_allowed base (reverse entries))
allowed_as base entries known b e ok =
    subst (λ (core : Core). IsTrue (is_allowed core (reverse entries))) (sym b)
    (subst (λ (other : List Entry). IsTrue (is_allowed worked_base (reverse other))) (sym e) ok)

pub all_allowed : (base : Core) (entries : List Entry) → base ≡ worked_base → entries ≡ reverse worked_on → IsTrue (is_allowed base (reverse entries))
all_allowed base entries b e = allowed_as base entries (reverse worked_on) b e allowed_is

pub first_allowed : (base : Core) (all entries : List Entry) → base ≡ worked_base → all ≡ reverse worked_on → entries ≡ take 7 all → IsTrue (is_allowed base (reverse entries))
first_allowed base all entries b e is = allowed_as base entries (reverse worked) b (is ∙ ap (take 7) e) refl

-- one more item of a list that is known
pub added : (entries more known : List Entry) (entry other : Entry) → entries ≡ known → entry ≡ other → more ≡ entries ++ entry ∷ [] → more ≡ known ++ other ∷ []
added entries more known entry other e is more_is = more_is ∙ ap (λ l. l ++ entry ∷ []) e ∙ ap (λ k. known ++ k ∷ []) is

pub on_ok : {X E : Type 0} {P Q : Type 0} (r : Result X E) → (P → Q) → OnOk r P → OnOk r Q
on_ok (Ok x) f p = f p
on_ok (Err e) f p = p
