-- How an honest disk's bytes go on from write to write.
use Rattle.std.proofs.Common.{◌≡◌, ℕ, List, IsTrue, Option, Some, None, IfSome, sym, ◌∙◌, subst}
use Rattle.page_chain.specs.Disk.{DiskState, DiskGoesOn, Only}
use Rattle.page_file.specs.Inner.Laid.{Lays}

pub lays_on : (a b c : DiskState) (f g : List ℕ → List ℕ) → DiskGoesOn a b → Lays f a b → Lays g b c → Lays (λ x. g (f x)) a c
lays_on a b c f g same first then_ honest = by_seen a.seen (first honest)
  where
    next : IfSome b.seen (λ seen. c.seen ≡ Some (g seen))
    next = then_ (subst IsTrue (sym same.honest) honest)

    by_seen : (o : Option (List ℕ)) → IfSome o (λ seen. b.seen ≡ Some (f seen)) → IfSome o (λ seen. c.seen ≡ Some (g (f seen)))
    by_seen None is = tt
    by_seen (Some x) is = subst (λ (o : Option (List ℕ)). IfSome o (λ seen. c.seen ≡ Some (g seen))) is next

pub lays_same : (a b c : DiskState) (f : List ℕ → List ℕ) → c.seen ≡ b.seen → Lays f a b → Lays f a c
lays_same a b c f same lays honest = by_seen a.seen (lays honest)
  where
    by_seen : (o : Option (List ℕ)) → IfSome o (λ seen. b.seen ≡ Some (f seen)) → IfSome o (λ seen. c.seen ≡ Some (f seen))
    by_seen None is = tt
    by_seen (Some x) is = same ∙ is

pub lays_only : (a b c : DiskState) (f : List ℕ → List ℕ) (after : List ℕ → Type 0) → DiskGoesOn a b → c.seen ≡ b.seen → Lays f a b → (IsTrue b.honest → IfSome b.seen (λ seen. Only seen after))
    → IsTrue a.honest → IfSome a.seen (λ seen. (c.seen ≡ Some (f seen)) × Only (f seen) after)
lays_only a b c f after goes same lays durable honest = by_seen a.seen (lays honest)
  where
    all : IfSome b.seen (λ seen. Only seen after)
    all = durable (subst IsTrue (sym goes.honest) honest)

    by_seen : (o : Option (List ℕ)) → IfSome o (λ seen. b.seen ≡ Some (f seen)) → IfSome o (λ seen. (c.seen ≡ Some (f seen)) × Only (f seen) after)
    by_seen None is = tt
    by_seen (Some x) is = (same ∙ is, subst (λ (o : Option (List ℕ)). IfSome o (λ seen. Only seen after)) is all)
