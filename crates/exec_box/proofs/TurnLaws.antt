-- What has become of the numbers so far, one after the other.
use Rattle.std.proofs.Common.{◌≡◌, ◌∙◌, List, [], ◌∷◌, ◌++◌, append_assoc, sym, ap, subst}
use Rattle.std.specs.List.{AllByRecursion, AllZip}

pub first_accepted : {P : Type 0} (A : P → Type 0) (p : P) (items left : List P) → items ≡ p ∷ left → AllByRecursion A items → A p
first_accepted A p items left is all = (subst (AllByRecursion A) is all).0

pub one_made : {P M : Type 0} (A : P → Type 0) (R : P → M → Type 0) (pieces items left : List P) (p : P) (m : M) (made more : List M) → items ≡ p ∷ left
    → R p m → more ≡ made ++ m ∷ [] → AllByRecursion A items × ((rest : List M) → AllZip R items rest → AllZip R pieces (made ++ rest))
    → AllByRecursion A left × ((rest : List M) → AllZip R left rest → AllZip R pieces (more ++ rest))
one_made {P} {M} A R pieces items left p m made more is gives pushed so_far = (
  (subst (AllByRecursion A) is so_far.0).1,
  λ rest zip. subst (AllZip R pieces) (sym (ap (λ (l : List M). l ++ rest) pushed ∙ append_assoc made (m ∷ []) rest))
      (so_far.1 (m ∷ rest) (subst (λ (l : List P). AllZip R l (m ∷ rest)) (sym is) (gives, zip))),
)

pub none_made : {P M : Type 0} (A : P → Type 0) (R : P → M → Type 0) (pieces items : List P) (made : List M) → items ≡ pieces → made ≡ []
    → AllByRecursion A pieces → AllByRecursion A items × ((rest : List M) → AllZip R items rest → AllZip R pieces (made ++ rest))
none_made {P} {M} A R pieces items made is empty all = (
  subst (AllByRecursion A) (sym is) all,
  λ rest zip. subst (λ (l : List M). AllZip R pieces (l ++ rest)) (sym empty) (subst (λ (l : List P). AllZip R l rest) is zip),
)
