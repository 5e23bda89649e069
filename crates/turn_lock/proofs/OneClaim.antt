-- A seat's one claim, and the value that is in its slot.
use Rattle.std.proofs.Common.{◌≡◌, ℕ, ◌+◌, ◌-◌, List, [], ◌∷◌, length, refl, sym, ap, subst, ◌∙◌, arith, Option, Some, None, length-append}
use Rattle.std.proofs.lemmas.List.{length-map}
use mathlib.Core.Option.{some}
use lib.ListN.{get_elem?}
use Rattle.atomic_table.specs.Table.{Me, Step, rest}
use Rattle.turn_lock.specs.declared.turns.view.Claim.{Claim}
use Rattle.turn_lock.specs.declared.turns.view.SeatView.{SeatView}
use Rattle.turn_lock.specs.declared.turns.view.Stage.TheVariants.{Holding}
use Rattle.turn_lock.specs.Owners.{ExtendsByOthers, ExtendsByOwn}
use Rattle.turn_lock.specs.Inner.Views.{claim, first_number, first_seen, claims_seeing}
use Rattle.turn_lock.specs.Inner.Steps.{Draws, Begins}

module _ {E : Type 0} where
  pub one_claim : (cs : List (Claim E)) → length cs ≡ 1 → cs ≡ claim (first_number cs) (first_seen cs) ∷ []
  one_claim [] e = absurd (omega arith)
  one_claim (c ∷ []) e = refl
  one_claim (c ∷ d ∷ cs) e = absurd (omega arith)

  pub claim_at : (cs : List (Claim E)) → length cs ≡ 1 → get_elem? cs 0 ≡ some (claim (first_number cs) (first_seen cs))
  claim_at cs e = ap (λ l. get_elem? l 0) (one_claim cs e)

  pub renewed_number : (xs : List E) (cs : List (Claim E)) → first_number (claims_seeing xs cs) ≡ first_number cs
  renewed_number xs [] = refl
  renewed_number xs (c ∷ cs) = refl

  pub renewed_length : (xs : List E) (cs : List (Claim E)) → length (claims_seeing xs cs) ≡ length cs
  renewed_length xs cs = length-map cs (λ c. claim c.number xs)

  pub renewed_seen : (xs : List E) (cs : List (Claim E)) → length cs ≡ 1 → first_seen (claims_seeing xs cs) ≡ xs
  renewed_seen xs [] e = absurd (omega arith)
  renewed_seen xs (c ∷ cs) e = refl

module _ {V : Type 0} where
  abbrev value_or : V → Option V → V
  value_or x (Some y) = y
  value_or x None = x

  abbrev value_in : V → List (ℕ × Option V) → V
  value_in x [] = x
  value_in x (p ∷ ps) = value_or x p.1

  -- what comes out of the slot is what was in it
  took : (l k m : List (ℕ × Option V)) (x y : V) (r : Option V) → l ≡ (0, Some x) ∷ k → l ≡ (0, r) ∷ m → r ≡ Some y → x ≡ y
  took l k m x y r a b c = ap (value_in x) (sym a ∙ b) ∙ ap (value_or x) c

module _ {V O E : Type 0} (origin : V → O) (entries : V → List E) (owner : E → Option ℕ) where
  abbrev M : Type 0
  M = Me (Option V) (SeatView V E)

  pub record Entered (old now : M) (y : V) : Type 0 where
    pub number : first_number now.0.claims ≡ first_number old.0.claims
    pub seen : first_seen now.0.claims ≡ entries y
    pub stage : now.0.stage ≡ Holding
    pub slot : now.1 ≡ (0, None) ∷ []
    pub from : (f : V) → old.0.first ≡ Some f → (now.0.first ≡ Some f) × (origin y ≡ origin f)
    pub extends : ExtendsByOthers owner (first_number old.0.claims) (first_seen old.0.claims) (entries y)

  -- the draw, the wait and the exchange, one after another
  pub entered : (st : Step (Option V)) (old m1 m2 now : M) (ticket : ℕ) (r : Option V) (y : V) → length old.0.claims ≡ 1 → old.1 ≡ [] → Draws st old ticket m1
      → m2.0.first ≡ m1.0.first → Begins origin entries owner m1 m2 → m2.1 ≡ (0, r) ∷ rest m2.1 → now ≡ (m2.0, (0, None) ∷ rest m2.1) → r ≡ Some y → Entered old now y
  entered st old m1 m2 now ticket r y one no_slot drawn source turn found is got =
      let x : turn.0 ≡ y = took m2.1 m1.1 (rest m2.1) turn.0 y r turn.1 found got in
      let claims : now.0.claims ≡ claims_seeing (entries y) old.0.claims = ap (λ (m : M). m.0.claims) is ∙ turn.3 ∙ (λ i. claims_seeing (entries (x i)) (drawn.3 i)) in record {
        number = ap first_number claims ∙ renewed_number (entries y) old.0.claims;
        seen = ap first_seen claims ∙ renewed_seen (entries y) old.0.claims one;
        stage = ap (λ (m : M). m.0.stage) is ∙ turn.2;
        slot = ap (λ (m : M). m.1) is ∙ ap (λ (l : List (ℕ × Option V)). (0, None) ∷ l) (ap rest turn.1 ∙ drawn.0 ∙ no_slot);
        from = λ f e. (ap (λ (m : M). m.0.first) is ∙ source ∙ drawn.2 ∙ e, ap origin (sym x) ∙ turn.4 f (drawn.2 ∙ e));
        extends = subst (λ v. ExtendsByOthers owner (first_number old.0.claims) (first_seen old.0.claims) (entries v)) x
            (turn.5 0 (claim (first_number old.0.claims) (first_seen old.0.claims)) (ap (λ cs. get_elem? cs 0) drawn.3 ∙ claim_at old.0.claims one));
      }

  pub record Back (old now : M) (x : V) : Type 0 where
    pub stage : now.0.stage ≡ Holding
    pub slot : now.1 ≡ (0, Some x) ∷ []
    pub claims : now.0.claims ≡ claim (first_number old.0.claims) (entries x) ∷ []
    pub source : now.0.first ≡ old.0.first

  -- the value is back in the slot, once its entries are known
  pub put_in : (old now : M) (x : V) → length old.0.claims ≡ 1 → old.0.stage ≡ Holding → old.1 ≡ (0, None) ∷ [] → first_seen old.0.claims ≡ entries x → now ≡ (old.0, (0, Some x) ∷ rest old.1) → Back old now x
  put_in old now x one holds slot known is = record {
    stage = ap (λ (m : M). m.0.stage) is ∙ holds;
    slot = ap (λ (m : M). m.1) is ∙ ap (λ (l : List (ℕ × Option V)). (0, Some x) ∷ rest l) slot;
    claims = ap (λ (m : M). m.0.claims) is ∙ one_claim old.0.claims one ∙ ap (λ xs. claim (first_number old.0.claims) xs ∷ []) known;
    source = ap (λ (m : M). m.0.first) is;
  }

module _ {E : Type 0} (owner : E → Option ℕ) where
  -- how much longer the list has become
  pub grown : (k : ℕ) (seen xs : List E) (before count : ℕ) → ExtendsByOwn owner k seen xs → before ≡ length seen → count ≡ length xs → length seen + (count - before) ≡ length xs
  grown k seen xs before count h a b = let long = ap length h.1 ∙ length-append seen h.0 in let s : ℕ = length seen in let m : ℕ = length h.0 in let l : ℕ = length xs in
      let long' : l ≡ s + m = long in let a' : before ≡ s = a in let b' : count ≡ l = b in omega arith
