-- How the table begins, how seats are split and joined, and what its end says.
use mathlib.Core.Logic.{dite}
use native.Mathlib.Decide.{ℕ_discrete}
use Rattle.std.proofs.Common.{◌≡◌, ◌≢◌, ℕ, zero, suc, ◌+◌, ◌<◌, ◌≤◌, inl, inr, ⊎_elim, eqb, List, [], ◌∷◌, ◌++◌, length, set, sym, refl, ap, subst, ◌∙◌, arith, Option, Some, None, ne_eqb, eq-eqb, length-set, length-append}
use mathlib.Core.Option.{some, none, some-injective, some-ne-none}
use prog.Atomic.{either}
use lib.ListN.{get_elem?}
use Rattle.atomic_table.specs.Table.{State, Me, step, Splits, Joins, Enters, Final, Seen, opening}
use Rattle.atomic_table.proofs.Lists.{at_set, set_else, at_longer, at_last}
use Rattle.turn_lock.specs.declared.turns.view.Claim.{Claim}
use Rattle.turn_lock.specs.declared.turns.view.SeatView.{SeatView}
use Rattle.turn_lock.specs.declared.turns.view.Stage.TheVariants.{Idle, Holding}
use Rattle.turn_lock.specs.Owners.{AreOwnedBelow, ExtendsByOthers}
use Rattle.turn_lock.specs.Inner.Views.{tickets_at, claim, new_claims, first_of, later_of, first_view, spent_view, first_share, later_share, both_shares, ticket_count, number_count, HasNumber}
use Rattle.turn_lock.specs.Inner.Steps.{Arrives}
use Rattle.turn_lock.specs.Rule.{total, Fits, IsOneHistory}
use Rattle.turn_lock.proofs.Basics.{idle_not_holding, same_value, none_not_some}
use Rattle.turn_lock.proofs.Standing.{has_before, has_after, has_later, had_first, had_later, had_either, none_has, new_claims_have, new_claims_below, stand_set, below_set, below_longer}
use Rattle.turn_lock.proofs.Lists.{set_at, total_set, total_append, total_two, at_end, at_either, all_seen, length-new_claims, new_claim_at}

module _ {V E : Type 0} where
  -- what is not the holder of a turn stands in its stage whoever has its number
  same_view : (v w : SeatView V E) → v.stage ≡ Idle → v ≡ w → w.stage ≢ Holding
  same_view v w idle e = idle_not_holding w.stage (ap (λ (u : SeatView V E). u.stage) (sym e) ∙ idle)

  other_view : (views : List (SeatView V E)) (i j : ℕ) (v w : SeatView V E) → v.stage ≡ Idle → get_elem? views i ≡ some v → get_elem? views j ≡ some w → w.stage ≡ Holding → j ≢ i
  other_view views i j v w idle a b holds e = same_view v w idle (some-injective v w (sym a ∙ ap (get_elem? views) (sym e) ∙ b)) holds

module _ {E : Type 0} where
  only_first : (number i : ℕ) (c : Claim E) → get_elem? (claim number [] ∷ []) i ≡ some c → (P : Claim E → Type 0) → P (claim number []) → P c
  only_first number zero c e P h = subst P (some-injective (claim number []) c e) h
  only_first number (suc i) c e P h = absurd (some-ne-none c (sym e))

module _ {V E : Type 0} (owner : E → Option ℕ) (first : V) where
  -- a seat with no number fits anywhere
  nobody : (served next : ℕ) (drawer holder : ℕ → ℕ) (log : List E) (j : ℕ) → Fits owner first served next drawer holder log j spent_view
  nobody served next drawer holder log j = record { from = λ some. absurd (omega arith); claimed = λ i c at. absurd (some-ne-none c (sym at)); numbered = omega arith; staged = tt }

module _ {V O E : Type 0} (origin : V → O) (entries : V → List E) (owner : E → Option ℕ) (first : V) (seats : ℕ) where
  abbrev S : Type 0
  S = Option V

  abbrev D : Type 0
  D = SeatView V E

  abbrev St : Type 0
  St = State S D

  abbrev M : Type 0
  M = Me S D

  abbrev K : St → Type 0
  K = IsOneHistory origin entries owner first seats

  pub begins : (x : V) → origin x ≡ origin first → entries x ≡ [] → seats ≤ 17 → K (opening (0 ∷ 0 ∷ 0 ∷ []) (Some x ∷ []) (first_view first seats))
  begins x same empty few = record {
    log = [];
    served = 0;
    next = 0;
    drawer = λ _. 0;
    holder = λ _. 0;
    words = refl;
    few = few;
    ordered = omega arith;
    each = λ j v there. ⊎_elim
        (λ h. absurd (some-ne-none v (sym h)))
        (λ h. subst (λ (p : ℕ × D). Fits owner first 0 0 (λ _. 0) (λ _. 0) [] p.0 p.1) (λ i. (sym h.0 i, h.1 i))
        record { from = λ _. refl; claimed = λ i c at. (refl, all_seen owner c.number c.seen [] (new_claim_at 0 seats i c at).1); numbered = (let n : ℕ = length (new_claims {E = E} 0 seats) in let g : 0 ≤ n = omega arith in g); staged = tt })
        (at_end [] (first_view first seats) v j there);
    waiting = omega arith;
    shared_out = (let n : ℕ = length (new_claims {E = E} 0 seats) in let h : n ≡ seats = length-new_claims E 0 seats in let g : n + 0 ≡ seats = omega arith in g);
    stands = λ n below. (first_view first seats, refl, new_claims_have n seats below);
    in_range = below_longer seats [] (first_view first seats) (λ n h. new_claims_below n seats h) (λ j v there. absurd (some-ne-none v (sym there)));
    owned = refl;
    slot = inl (x, refl, same, empty, λ j v there. ⊎_elim (λ h. absurd (some-ne-none v (sym h))) (λ h. same_view (first_view first seats) v refl h.1) (at_end [] (first_view first seats) v j there));
  }

  -- a seat with no number comes
  pub sits : (n i : ℕ) (m : M) → Enters K n i (λ r w. Arrives (step n i 0 0 none) m r (w, []))
  sits n i m s k wide _ = (
    spent_view,
    record {
      log = k.log;
      served = k.served;
      next = k.next;
      drawer = k.drawer;
      holder = k.holder;
      words = k.words;
      few = k.few;
      ordered = k.ordered;
      each = λ j v there. ⊎_elim (k.each j v)
          (λ h. subst (Fits owner first k.served k.next k.drawer k.holder k.log j) h.1 (nobody owner first k.served k.next k.drawer k.holder k.log j))
          (at_end s.views spent_view v j there);
      waiting = (let a : k.next ≡ k.served + total ticket_count s.views = k.waiting in let b = total_append ticket_count s.views (spent_view ∷ []) in omega arith);
      shared_out = (let a : total number_count s.views ≡ seats = k.shared_out in let b = total_append number_count s.views (spent_view ∷ []) in omega arith);
      stands = λ n below. let old = k.stands n below in (old.0, at_longer s.views (spent_view ∷ []) (k.holder n) old.0 old.1, old.2);
      in_range = below_longer seats s.views spent_view (λ n h. none_has n h) k.in_range;
      owned = k.owned;
      slot = ⊎_elim
          (λ h. inl (h.0, h.1, h.2, h.3, λ j v there. ⊎_elim (h.4 j v) (λ t. same_view spent_view v refl t.1) (at_end s.views spent_view v j there)))
          (λ h. inr (h.0, (h.1.0, h.1.1, at_longer s.views (spent_view ∷ []) h.1.0 h.1.1 h.1.2, h.1.3)))
          k.slot;
    },
    refl,
  )

  -- the first claim goes to a new seat
  pub splits : (id : ℕ) (v : D) (number more : ℕ) → v.stage ≡ Idle → v.claims ≡ new_claims number (suc more) → Splits K id v (later_share v) (first_share v)
  splits id v number more idle are s k at =
      let left : D = later_share v in let right : D = first_share v in let new : ℕ = length (set s.views id left) in
      let same_length : new ≡ length s.views = length-set s.views id left in
      let fit = k.each id v at in let head : Claim E = claim number [] in
      let mine : k.holder number ≡ id = (fit.claimed 0 head (ap (λ l. get_elem? l 0) are)).0 in
      let holder' : ℕ → ℕ = λ n. either (eqb n number) new (k.holder n) in
      let here : holder' number ≡ new = ap (λ b. either b new (k.holder number)) (eq-eqb number number refl) in
      let else : (n : ℕ) → n ≢ number → holder' n ≡ k.holder n = λ n ne. ap (λ b. either b new (k.holder n)) (ne_eqb n number ne) in
      let tq = total_set ticket_count s.views id v left at in let tn = total_set number_count s.views id v left at in
      let aq = total_append ticket_count (set s.views id left) (right ∷ []) in let an = total_append number_count (set s.views id left) (right ∷ []) in
      let zero_q : tickets_at v.stage ≡ 0 = ap tickets_at idle in
      let n0 : length v.claims ≡ suc more = ap length are ∙ length-new_claims E number (suc more) in
      let known : v.first ≡ Some first = fit.from (let n : ℕ = length v.claims in let a : n ≡ suc more = n0 in let g : 0 < n = omega arith in g) in
      let n1 : length left.claims ≡ more = ap length (ap later_of are) ∙ length-new_claims E (suc number) more in
      let n2 : length right.claims ≡ 1 = ap length (ap first_of are) in record {
        log = k.log;
        served = k.served;
        next = k.next;
        drawer = k.drawer;
        holder = holder';
        words = k.words;
        few = k.few;
        ordered = k.ordered;
        each = λ j w there. ⊎_elim
            (λ old. ⊎_elim
            (λ h. subst (λ (p : ℕ × D). Fits owner first k.served k.next k.drawer holder' k.log p.0 p.1) (λ i. (sym h.0 i, h.1 i)) record {
              from = λ _. known;
              claimed = λ i c at_c. let later = new_claim_at (suc number) more i c (ap (λ l. get_elem? l i) (ap later_of (sym are)) ∙ at_c) in
                  let was = fit.claimed (suc i) c (ap (λ l. get_elem? l (suc i)) are ∙ ap (λ l. get_elem? l i) (ap later_of (sym are)) ∙ at_c) in
                  let m : ℕ = c.number in let far : m ≡ suc number + i = later.0 in (else m (omega arith) ∙ was.0, was.1);
              numbered = (let n : ℕ = length left.claims in let g : 0 ≤ n = omega arith in g);
              staged = tt;
            })
            (λ h. let f = k.each j w h.1 in record {
              from = f.from;
              claimed = λ i c at_c. let was = f.claimed i c at_c in (else c.number (λ e. h.0 (sym was.0 ∙ ap k.holder e ∙ mine)) ∙ was.0, was.1);
              numbered = f.numbered;
              staged = f.staged;
            })
            (at_set s.views id j left w old))
            (λ h. subst (λ (p : ℕ × D). Fits owner first k.served k.next k.drawer holder' k.log p.0 p.1) (λ i. (sym h.0 i, h.1 i)) record {
              from = λ _. known;
              claimed = λ i c at_c. only_first number i c (ap (λ l. get_elem? l i) (ap first_of (sym are)) ∙ at_c) (λ (d : Claim E). (holder' d.number ≡ new) × ExtendsByOthers owner d.number d.seen k.log)
                  (here, (fit.claimed 0 head (ap (λ l. get_elem? l 0) are)).1);
              numbered = (let n : ℕ = length right.claims in let g : 0 ≤ n = omega arith in g);
              staged = tt;
            })
            (at_end (set s.views id left) right w j there);
        waiting = (let a : k.next ≡ k.served + total ticket_count s.views = k.waiting in omega arith);
        shared_out = (let a : total number_count s.views ≡ seats = k.shared_out in omega arith);
        stands = λ n below. dite (ℕ_discrete n number)
            (λ e. (right, ap (get_elem? (set s.views id left ++ right ∷ [])) (ap holder' e ∙ here) ∙ at_last (set s.views id left) right new refl, (0, head, ap (λ l. get_elem? l 0) (ap first_of are), sym e)))
            (λ ne. let old = stand_set n k.holder s.views id v left at
            (λ h. subst (HasNumber n) (sym (ap later_of are)) (has_later n number v.claims (new_claims (suc number) more) are ne h)) (k.stands n below) in
            (old.0, ap (get_elem? (set s.views id left ++ right ∷ [])) (else n ne) ∙ at_longer (set s.views id left) (right ∷ []) (k.holder n) old.0 old.1, old.2));
        in_range = below_longer seats (set s.views id left) right (λ n h. k.in_range id v at n (had_first n v.claims h))
            (below_set seats s.views id left (λ n h. k.in_range id v at n (had_later n v.claims h)) k.in_range);
        owned = k.owned;
        slot = ⊎_elim
            (λ h. inl (
              h.0,
              h.1,
              h.2,
              h.3,
              λ j w there. ⊎_elim
                  (λ old. ⊎_elim (λ t. same_view left w refl t.1) (λ t. h.4 j w t.1) (at_set s.views id j left w old))
                  (λ t. same_view right w refl t.1) (at_end (set s.views id left) right w j there),
            ))
            (λ h. let j : ℕ = h.1.0 in let w : D = h.1.1 in inr (h.0, (j, w, at_longer (set s.views id left) (right ∷ []) j w (set_else s.views id j left (other_view s.views id j v w idle at h.1.2 h.1.3) ∙ h.1.2), h.1.3)))
            k.slot;
      }

  -- all claims of another seat are taken
  pub joins : (id : ℕ) (v : D) (other : ℕ) (w : D) → v.stage ≡ Idle → w.stage ≡ Idle → 0 < length w.claims → Joins K id v other w (both_shares v w) spent_view
  joins id v other w idle idle' some_claim s k at ne at' =
      let both : D = both_shares v w in let mid : List D = set s.views id both in
      let there : get_elem? s.views other ≡ some w = sym (set_else s.views id other both ne) ∙ at' in
      let fv = k.each id v at in let fw = k.each other w there in
      let holder' : ℕ → ℕ = λ n. either (eqb (k.holder n) other) id (k.holder n) in
      let moves : (n : ℕ) → k.holder n ≡ other → holder' n ≡ id = λ n e. ap (λ b. either b id (k.holder n)) (eq-eqb (k.holder n) other e) in
      let stays : (n j : ℕ) → k.holder n ≡ j → j ≢ other → holder' n ≡ j = λ n j e no. ap (λ b. either b id (k.holder n)) (ne_eqb (k.holder n) other (λ d. no (sym e ∙ d))) ∙ e in
      let tq = total_set ticket_count s.views id v both at in let tn = total_set number_count s.views id v both at in
      let tq' = total_set ticket_count mid other w spent_view at' in let tn' = total_set number_count mid other w spent_view at' in
      let qv : tickets_at v.stage ≡ 0 = ap tickets_at idle in let qw : tickets_at w.stage ≡ 0 = ap tickets_at idle' in
      let nb : length both.claims ≡ length w.claims + length v.claims = length-append w.claims v.claims in record {
        log = k.log;
        served = k.served;
        next = k.next;
        drawer = k.drawer;
        holder = holder';
        words = k.words;
        few = k.few;
        ordered = k.ordered;
        each = λ j u here. ⊎_elim
            (λ h. subst (Fits owner first k.served k.next k.drawer holder' k.log j) h.1 (nobody owner first k.served k.next k.drawer holder' k.log j))
            (λ away. ⊎_elim
            (λ h. subst (λ (p : ℕ × D). Fits owner first k.served k.next k.drawer holder' k.log p.0 p.1) (λ i. (sym h.0 i, h.1 i)) record {
              from = λ _. fw.from some_claim;
              claimed = λ i c at_c. ⊎_elim
                  (λ a. let was = fw.claimed a.0 c a.1 in (moves c.number was.0, was.1))
                  (λ a. let was = fv.claimed a.0 c a.1 in (stays c.number id was.0 (λ e. ne (sym e)), was.1))
                  (at_either w.claims v.claims i c at_c);
              numbered = (let n : ℕ = length both.claims in let g : 0 ≤ n = omega arith in g);
              staged = tt;
            })
            (λ h. let f = k.each j u h.1 in record {
              from = f.from;
              claimed = λ i c at_c. let was = f.claimed i c at_c in (stays c.number j was.0 away.0, was.1);
              numbered = f.numbered;
              staged = f.staged;
            })
            (at_set s.views id j both u away.1))
            (at_set mid other j spent_view u here);
        waiting = (let a : k.next ≡ k.served + total ticket_count s.views = k.waiting in omega arith);
        shared_out = (let a : total number_count s.views ≡ seats = k.shared_out in omega arith);
        stands = λ n below. let old = k.stands n below in dite (ℕ_discrete (k.holder n) other)
            (λ e. (
              both,
              ap (get_elem? (set mid other spent_view)) (moves n e) ∙ (set_else mid other id spent_view (λ d. ne (sym d)) ∙ set_at s.views id v both at),
              has_before n w.claims v.claims (subst (λ (u : D). HasNumber n u.claims) (some-injective old.0 w (sym old.1 ∙ ap (get_elem? s.views) e ∙ there)) old.2),
            ))
            (λ no. let kept = stand_set n k.holder s.views id v both at (has_after n w.claims v.claims) old in
            (kept.0, ap (get_elem? (set mid other spent_view)) (stays n (k.holder n) refl no) ∙ (set_else mid other (k.holder n) spent_view no ∙ kept.1), kept.2));
        in_range = below_set seats mid other spent_view (λ n h. none_has n h)
            (below_set seats s.views id both (λ n h. ⊎_elim (k.in_range other w there n) (k.in_range id v at n) (had_either n w.claims v.claims h)) k.in_range);
        owned = k.owned;
        slot = ⊎_elim
            (λ h. inl (
              h.0,
              h.1,
              h.2,
              h.3,
              λ j u here. ⊎_elim (λ t. same_view spent_view u refl t.1)
                  (λ away. ⊎_elim (λ t. same_view both u refl t.1) (λ t. h.4 j u t.1) (at_set s.views id j both u away.1)) (at_set mid other j spent_view u here),
            ))
            (λ h. let j : ℕ = h.1.0 in let u : D = h.1.1 in
            inr (h.0, (j, u, set_else mid other j spent_view (other_view s.views other j w u idle' there h.1.2 h.1.3) ∙ (set_else s.views id j both (other_view s.views id j v u idle at h.1.2 h.1.3) ∙ h.1.2), h.1.3)))
            k.slot;
      }

  -- once a seat has every number, the value is at home, it extends all that was seen, and no other number owns an entry
  pub ends : (id : ℕ) (v : D) (ws : List ℕ) (xs : List S) → v.stage ≡ Idle → length v.claims ≡ seats → Final (Seen K id v) ws xs
      → (x : V) × (get_elem? xs 0 ≡ some (Some x)) × (origin x ≡ origin first) × ((i : ℕ) (c : Claim E) → get_elem? v.claims i ≡ some c → ExtendsByOthers owner c.number c.seen (entries x)) × AreOwnedBelow owner seats (entries x)
  ends id v ws xs idle all last = let s = last.0 in let k = last.1.0 in let at = last.1.1 in
      ⊎_elim
      (λ h. (
        h.0,
        last.4 0 (Some h.0) (ap (λ hs. get_elem? hs 0) h.1),
        h.2,
        λ i c at_c. subst (ExtendsByOthers owner c.number c.seen) (sym h.3) ((k.each id v at).claimed i c at_c).1,
        subst (AreOwnedBelow owner seats) (sym h.3) k.owned,
      ))
      (λ h. let j : ℕ = h.1.0 in let w : D = h.1.1 in
      let two = total_two number_count s.views j id w v (other_view s.views id j v w idle at h.1.2 h.1.3) h.1.2 at in
      let one : tickets_at w.stage ≡ 1 = ap tickets_at h.1.3 in let some_number : tickets_at w.stage ≤ length w.claims = (k.each j w h.1.2).numbered in
      let sum : total number_count s.views ≡ seats = k.shared_out in let a : ℕ = length v.claims in let b : ℕ = length w.claims in let two' : b + a ≤ total number_count s.views = two in absurd (omega arith))
      k.slot

  -- the same, of the value that is found
  pub value_at_end : (id : ℕ) (v : D) (ws : List ℕ) (xs : List S) (y : V) → v.stage ≡ Idle → length v.claims ≡ seats → Final (Seen K id v) ws xs → get_elem? xs 0 ≡ some (Some y)
      → (origin y ≡ origin first) × ((i : ℕ) (c : Claim E) → get_elem? v.claims i ≡ some c → ExtendsByOthers owner c.number c.seen (entries y)) × AreOwnedBelow owner seats (entries y)
  value_at_end id v ws xs y idle all last found = let e = ends id v ws xs idle all last in
      let same : e.0 ≡ y = same_value e.0 y (some-injective (Some e.0) (Some y) (sym e.1 ∙ found)) in
      (ap origin (sym same) ∙ e.2, (λ i c at. subst (λ z. ExtendsByOthers owner c.number c.seen (entries z)) same (e.3 i c at)), subst (λ z. AreOwnedBelow owner seats (entries z)) same e.4)

  pub none_at_end : (id : ℕ) (v : D) (ws : List ℕ) (xs : List S) → v.stage ≡ Idle → length v.claims ≡ seats → Final (Seen K id v) ws xs → get_elem? xs 0 ≡ some None → ⊥
  none_at_end id v ws xs idle all last found = let e = ends id v ws xs idle all last in none_not_some e.0 (sym (some-injective (Some e.0) None (sym e.1 ∙ found)))
