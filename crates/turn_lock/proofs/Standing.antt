-- Each number stands in one view, and no others do.
use Rattle.std.proofs.Common.{◌≡◌, ◌≢◌, ℕ, zero, suc, ◌+◌, ◌<◌, ◌⊎◌, inl, inr, ⊎_elim, List, [], ◌∷◌, ◌++◌, set, sym, ap, subst, ◌∙◌, arith}
use mathlib.Core.Logic.{dite}
use mathlib.Core.Option.{some, some-injective, some-ne-none}
use native.Mathlib.Decide.{ℕ_discrete}
use lib.ListN.{get_elem?}
use Rattle.atomic_table.proofs.Lists.{at_longer, at_map, at_set, set_else}
use Rattle.turn_lock.specs.declared.turns.view.Claim.{Claim}
use Rattle.turn_lock.specs.declared.turns.view.SeatView.{SeatView}
use Rattle.turn_lock.specs.Inner.Views.{claim, new_claims, first_of, later_of, claims_seeing, HasNumber}
use Rattle.turn_lock.specs.Rule.{AreBelow, Stands}
use Rattle.turn_lock.proofs.Lists.{set_at, at_end, at_either, at_mapped, new_claim_below}

module _ {E : Type 0} where
  pub has_renewed : (n : ℕ) (xs : List E) (cs : List (Claim E)) → HasNumber n cs → HasNumber n (claims_seeing xs cs)
  has_renewed n xs cs h = (h.0, claim h.1.number xs, at_map (λ c. claim c.number xs) cs h.0 h.1 h.2, h.3)

  pub has_before : (n : ℕ) (cs ds : List (Claim E)) → HasNumber n cs → HasNumber n (cs ++ ds)
  has_before n cs ds h = (h.0, h.1, at_longer cs ds h.0 h.1 h.2, h.3)

  pub has_after : (n : ℕ) (cs ds : List (Claim E)) → HasNumber n ds → HasNumber n (cs ++ ds)
  has_after n [] ds h = h
  has_after n (c ∷ cs) ds h = let r = has_after n cs ds h in (suc r.0, r.1, r.2, r.3)

  tail_has : (n number : ℕ) (rest : List (Claim E)) → n ≢ number → (i : ℕ) (c : Claim E) → get_elem? (claim number [] ∷ rest) i ≡ some c → c.number ≡ n → HasNumber n rest
  tail_has n number rest ne zero c at num = absurd (ne (sym num ∙ sym (ap (λ (d : Claim E). d.number) (some-injective (claim number []) c at))))
  tail_has n number rest ne (suc i) c at num = (i, c, at, num)

  -- another number stays where the first claim goes
  pub has_later : (n number : ℕ) (cs rest : List (Claim E)) → cs ≡ claim number [] ∷ rest → n ≢ number → HasNumber n cs → HasNumber n rest
  has_later n number cs rest is ne h = tail_has n number rest ne h.0 h.1 (ap (λ l. get_elem? l h.0) (sym is) ∙ h.2) h.3

  new_has : (k n i : ℕ) → i < n → get_elem? (new_claims {E = E} k n) i ≡ some (claim (k + i) [])
  new_has k zero i lt = absurd (omega arith)
  new_has k (suc n) zero lt = ap (λ j. some (claim j [])) (let g : k ≡ k + 0 = omega arith in g)
  new_has k (suc n) (suc i) lt = new_has (suc k) n i (let g : i < n = omega arith in g) ∙ ap (λ j. some (claim j [])) (let g : suc k + i ≡ k + suc i = omega arith in g)

  pub new_claims_have : (n seats : ℕ) → n < seats → HasNumber n (new_claims {E = E} 0 seats)
  new_claims_have n seats below = (n, claim (0 + n) [], new_has 0 seats n below, (let g : 0 + n ≡ n = omega arith in g))

  pub had_renewed : (n : ℕ) (xs : List E) (cs : List (Claim E)) → HasNumber n (claims_seeing xs cs) → HasNumber n cs
  had_renewed n xs cs h = let old = at_mapped (λ c. claim c.number xs) cs h.0 h.1 h.2 in (h.0, old.0, old.1, ap (λ (c : Claim E). c.number) old.2 ∙ h.3)

  had_alone : (n : ℕ) (c : Claim E) (cs : List (Claim E)) (i : ℕ) (d : Claim E) → get_elem? (c ∷ []) i ≡ some d → d.number ≡ n → HasNumber n (c ∷ cs)
  had_alone n c cs zero d at num = (zero, d, at, num)
  had_alone n c cs (suc i) d at num = absurd (some-ne-none d (sym at))

  pub had_first : (n : ℕ) (cs : List (Claim E)) → HasNumber n (first_of cs) → HasNumber n cs
  had_first n [] h = h
  had_first n (c ∷ cs) h = had_alone n c cs h.0 h.1 h.2 h.3

  pub had_later : (n : ℕ) (cs : List (Claim E)) → HasNumber n (later_of cs) → HasNumber n cs
  had_later n [] h = h
  had_later n (c ∷ cs) h = (suc h.0, h.1, h.2, h.3)

  pub had_either : (n : ℕ) (cs ds : List (Claim E)) → HasNumber n (cs ++ ds) → HasNumber n cs ⊎ HasNumber n ds
  had_either n cs ds h = ⊎_elim (λ a. inl (a.0, h.1, a.1, h.3)) (λ a. inr (a.0, h.1, a.1, h.3)) (at_either cs ds h.0 h.1 h.2)

  pub none_has : {A : Type 0} (n : ℕ) → HasNumber {E = E} n [] → A
  none_has n h = absurd (some-ne-none h.1 (sym h.2))

  pub new_claims_below : (n seats : ℕ) → HasNumber {E = E} n (new_claims 0 seats) → n < seats
  new_claims_below n seats h = let c : ℕ = h.1.number in let a : c < 0 + seats = new_claim_below 0 seats h.0 h.1 h.2 in let b : c ≡ n = h.3 in omega arith

module _ {V E : Type 0} where
  -- a view takes the place of another
  pub stand_set : (n : ℕ) (holder : ℕ → ℕ) (views : List (SeatView V E)) (id : ℕ) (v w : SeatView V E) → get_elem? views id ≡ some v → (HasNumber n v.claims → HasNumber n w.claims) → Stands n holder views → Stands n holder (set views id w)
  stand_set n holder views id v w at moves old = dite (ℕ_discrete (holder n) id)
      (λ e. (w, ap (get_elem? (set views id w)) e ∙ set_at views id v w at, moves (subst (λ (u : SeatView V E). HasNumber n u.claims) (some-injective old.0 v (sym old.1 ∙ ap (get_elem? views) e ∙ at)) old.2)))
      (λ ne. (old.0, set_else views id (holder n) w ne ∙ old.1, old.2))

  pub below_set : (n : ℕ) (views : List (SeatView V E)) (id : ℕ) (w : SeatView V E) → ((m : ℕ) → HasNumber m w.claims → m < n) → AreBelow n views → AreBelow n (set views id w)
  below_set n views id w fits old j u there m has = ⊎_elim
      (λ t. fits m (subst (λ (x : SeatView V E). HasNumber m x.claims) (sym t.1) has))
      (λ t. old j u t.1 m has)
      (at_set views id j w u there)

  -- a view comes at the end
  pub below_longer : (n : ℕ) (views : List (SeatView V E)) (w : SeatView V E) → ((m : ℕ) → HasNumber m w.claims → m < n) → AreBelow n views → AreBelow n (views ++ w ∷ [])
  below_longer n views w fits old j u there m has = ⊎_elim
      (λ t. old j u t m has)
      (λ t. fits m (subst (λ (x : SeatView V E). HasNumber m x.claims) (sym t.1) has))
      (at_end views w u j there)
