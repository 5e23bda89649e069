-- Each step of the lock's table keeps the rule.
use Rattle.std.proofs.Common.{◌≡◌, ◌≢◌, ℕ, zero, suc, ◌+◌, ◌%◌, ◌^◌, ◌<◌, ◌≤◌, inl, inr, ⊎_elim, eqb, List, [], ◌∷◌, ◌++◌, length, get_or, set, sym, refl, ap, subst, ◌∙◌, arith, Option, Some, ne_eqb, eq-eqb}
use mathlib.Core.Logic.{dite}
use mathlib.Core.Option.{some, none, some-injective, some-ne-none}
use native.Mathlib.Decide.{ℕ_discrete}
use prog.Atomic.{either}
use lib.ListN.{get_elem?}
use Rattle.std.proofs.lemmas.List.{length-map}
use Rattle.atomic_table.specs.Table.{State, Me, step, Act, keeps, takes, gives, Valid, Allows, stepped, put_back, carried_after}
use Rattle.atomic_table.proofs.Lists.{at_set, set_again, set_else, one_turn}
use Rattle.turn_lock.specs.declared.turns.view.Claim.{Claim}
use Rattle.turn_lock.specs.declared.turns.view.SeatView.{SeatView}
use Rattle.turn_lock.specs.declared.turns.view.Stage.{Stage}
use Rattle.turn_lock.specs.declared.turns.view.Stage.TheVariants.{Idle, Waiting, Holding}
use Rattle.turn_lock.specs.Owners.{ExtendsByOthers, ExtendsByOwn}
use Rattle.turn_lock.specs.Inner.Views.{tickets_at, claim, claims_seeing, AllHaveSeen, seat_view, ticket_count, number_count}
use Rattle.turn_lock.specs.Inner.Steps.{Draws, Serves, Looks, Counts}
use Rattle.turn_lock.specs.Rule.{total, InStage, Fits, IsOut, IsOneHistory}
use Rattle.turn_lock.proofs.Basics.{idle_not_holding, waiting_not_holding, same_value}
use Rattle.turn_lock.proofs.Standing.{has_renewed, had_renewed, stand_set, below_set}
use Rattle.turn_lock.proofs.Lists.{set_at, total_set, total_le, at_mapped, still_extends, still_below, all_seen}

-- a word that counts modulo 2^64 goes on by 1
next_word : (n : ℕ) → (n % 2 ^ 64 + 1) % 2 ^ 64 ≡ (n + 1) % 2 ^ 64
next_word n = omega arith

module _ {E : Type 0} (log : List E) (f : ℕ → ℕ) (id next : ℕ) where
  -- the next ticket is the seat's
  abbrev drawn : ℕ → ℕ
  drawn t = either (eqb t next) id (f t)

  drawn_here : drawn next ≡ id
  drawn_here = ap (λ b. either b id (f next)) (eq-eqb next next refl)

  drawn_else : (t : ℕ) → t ≢ next → drawn t ≡ f t
  drawn_else t ne = ap (λ b. either b id (f t)) (ne_eqb t next ne)

module _ {V E : Type 0} where
  -- another seat's stage after a draw
  stage_drawn : (served next : ℕ) (drawer drawer' : ℕ → ℕ) (log : List E) (j : ℕ) (v : SeatView V E) (st : Stage) → ((t : ℕ) → t < next → drawer' t ≡ drawer t)
      → InStage served next drawer log j v st → InStage served (next + 1) drawer' log j v st
  stage_drawn served next drawer drawer' log j v Idle same h = tt
  stage_drawn served next drawer drawer' log j v Waiting same h = let t : ℕ = v.ticket in let a : t < next = h.1 in (h.0, omega arith, same t a ∙ h.2)
  stage_drawn served next drawer drawer' log j v Holding same h = let t : ℕ = v.ticket in let a : t < next = h.1 in (h.0, omega arith, same t a ∙ h.2, h.3)

  -- another seat's stage while the ticket served is not its own
  stage_else : (served served' next : ℕ) (drawer : ℕ → ℕ) (log log' : List E) (id j : ℕ) (v : SeatView V E) (st : Stage) → j ≢ id → drawer served ≡ id → served' ≤ served + 1
      → InStage served next drawer log j v st → InStage served' next drawer log' j v st
  stage_else served served' next drawer log log' id j v Idle ne mine le h = tt
  stage_else served served' next drawer log log' id j v Waiting ne mine le h = let t : ℕ = v.ticket in let a : served ≤ t = h.0 in
      let other : served ≢ t = λ e. ne (sym h.2 ∙ ap drawer (sym e) ∙ mine) in (omega arith, h.1, h.2)
  stage_else served served' next drawer log log' id j v Holding ne mine le h = absurd (ne (sym h.2 ∙ ap drawer (sym h.0) ∙ mine))

  not_holding : (served next : ℕ) (drawer : ℕ → ℕ) (log : List E) (id j : ℕ) (v : SeatView V E) → j ≢ id → drawer served ≡ id → InStage served next drawer log j v v.stage → v.stage ≢ Holding
  not_holding served next drawer log id j v ne mine h e = let h' : InStage served next drawer log j v Holding = subst (InStage served next drawer log j v) e h in ne (sym h'.2 ∙ ap drawer (sym h'.0) ∙ mine)

module _ {E : Type 0} where
  only_here : (number : ℕ) (xs : List E) (i : ℕ) (c : Claim E) → get_elem? (claim number xs ∷ []) i ≡ some c → c ≡ claim number xs
  only_here number xs zero c at = sym (some-injective (claim number xs) c at)
  only_here number xs (suc i) c at = absurd (some-ne-none c (sym at))

  -- the item of a list of one claim
  only_one : (number : ℕ) (xs : List E) (cs : List (Claim E)) → cs ≡ claim number xs ∷ [] → (i : ℕ) (c : Claim E) → get_elem? cs i ≡ some c → c ≡ claim number xs
  only_one number xs cs is i c at = only_here number xs i c (ap (λ l. get_elem? l i) (sym is) ∙ at)

module _ {V O E : Type 0} (origin : V → O) (entries : V → List E) (owner : E → Option ℕ) (first : V) (seats : ℕ) where
  abbrev S : Type 0
  S = Option V

  abbrev D : Type 0
  D = SeatView V E

  abbrev St : Type 0
  St = State S D

  abbrev M : Type 0
  M = Me S D

  abbrev K : St → Type 0
  K = IsOneHistory origin entries owner first seats

  -- a step that changes nothing
  unmoved : (s : St) (i id : ℕ) (me : M) → set s.words i (get_or s.words i 0) ≡ s.words → get_elem? s.views id ≡ some me.0 → K s → K (stepped s i (get_or s.words i 0) id me.1 me.0 keeps)
  unmoved s i id me same at k = subst K (λ j. record { words = sym same j; homes = s.homes; views = sym (set_again s.views id me.0 at) j }) k

  -- a seat draws a ticket
  pub draws : (n id : ℕ) (me : M) → me.0.stage ≡ Idle → 0 < length me.0.claims → Allows K n id me 1 (λ n. (n + 1) % 2 ^ 64) (Draws (step n 1 1 0 none) me)
  draws n id me idle some_claim s k wide at _ =
      let next : ℕ = k.next in let drawer' : ℕ → ℕ = drawn k.log k.drawer id next in let w : D = seat_view Waiting next me.0.first me.0.claims in
      let fit = k.each id me.0 at in
      let old : (t : ℕ) → t < next → drawer' t ≡ k.drawer t = λ t lt. drawn_else k.log k.drawer id next t (omega arith) in
      let tq = total_set ticket_count s.views id me.0 w at in let tn = total_set number_count s.views id me.0 w at in
      let zero_q : tickets_at me.0.stage ≡ 0 = ap tickets_at idle in (
        w,
        keeps,
        tt,
        record {
          log = k.log;
          served = k.served;
          next = next + 1;
          drawer = drawer';
          holder = k.holder;
          words = ap (λ ws. set ws 1 ((get_or ws 1 0 + 1) % 2 ^ 64)) k.words ∙ ap (λ n. length k.log ∷ n ∷ k.served % 2 ^ 64 ∷ []) (next_word next);
          few = k.few;
          ordered = (let a : k.served ≤ next = k.ordered in omega arith);
          each = λ j v there. ⊎_elim
              (λ t. subst (λ (p : ℕ × D). Fits owner first k.served (next + 1) drawer' k.holder k.log p.0 p.1) (λ i. (sym t.0 i, t.1 i))
              record { from = fit.from; claimed = fit.claimed; numbered = some_claim; staged = (k.ordered, (let g : next < next + 1 = omega arith in g), drawn_here k.log k.drawer id next) })
              (λ t. let f = k.each j v t.1 in record { from = f.from; claimed = f.claimed; numbered = f.numbered; staged = stage_drawn k.served next k.drawer drawer' k.log j v v.stage old f.staged })
              (at_set s.views id j w v there);
          waiting = (let a : next ≡ k.served + total ticket_count s.views = k.waiting in omega arith);
          shared_out = (let a : total number_count s.views ≡ seats = k.shared_out in omega arith);
          stands = λ n below. stand_set n k.holder s.views id me.0 w at (λ h. h) (k.stands n below);
          in_range = below_set seats s.views id w (k.in_range id me.0 at) k.in_range;
          owned = k.owned;
          slot = ⊎_elim
              (λ h. inl (h.0, h.1, h.2, h.3, λ j v there. ⊎_elim (λ t. subst (λ (u : D). u.stage ≢ Holding) t.1 (waiting_not_holding Waiting refl)) (λ t. h.4 j v t.1) (at_set s.views id j w v there)))
              (λ h. let j : ℕ = h.1.0 in let v : D = h.1.1 in
              let ne : j ≢ id = λ e. idle_not_holding me.0.stage idle (ap (λ (u : D). u.stage) (some-injective me.0 v (sym at ∙ ap (get_elem? s.views) (sym e) ∙ h.1.2)) ∙ h.1.3) in
              inr (h.0, (j, v, set_else s.views id j w ne ∙ h.1.2, h.1.3)))
              k.slot;
        },
        (refl, refl, refl, refl, ap (λ ws. get_or ws 1 0) k.words),
      )

  -- the ticket served is known by its word
  served_is : (s : St) (k : K s) (id : ℕ) (v : D) → get_elem? s.views id ≡ some v → v.stage ≡ Waiting → get_or s.words 2 0 ≡ v.ticket % 2 ^ 64 → k.served ≡ v.ticket
  served_is s k id v at waits is =
      let staged : InStage k.served k.next k.drawer k.log id v Waiting = subst (InStage k.served k.next k.drawer k.log id v) waits (k.each id v at).staged in
      let queue = total_le ticket_count number_count s.views (λ i u there. (k.each i u there).numbered) in
      let n : ℕ = k.next in let t : ℕ = v.ticket in let q : ℕ = total ticket_count s.views in let m : ℕ = total number_count s.views in
      let a : n ≡ k.served + q = k.waiting in let b : q ≤ m = queue in let c : m ≡ seats = k.shared_out in let d : seats ≤ 17 = k.few in let e : t < n = staged.1 in
      one_turn k.served t (2 ^ 64) staged.0 (omega arith) (sym (ap (λ ws. get_or ws 2 0) k.words) ∙ is)

  -- what a seat learns where its turn has come
  begins : (n id : ℕ) (me : M) (s : St) (k : K s) → me.0.stage ≡ Waiting → get_elem? s.views id ≡ some me.0 → get_or s.words 2 0 ≡ me.0.ticket % 2 ^ 64
      → (w : D) × (a : Act S) × Valid s.homes me.1 a × K (stepped s 2 (get_or s.words 2 0) id me.1 w a) × Looks origin entries owner (step n 2 0 0 none) me (get_or s.words 2 0) (w, carried_after me.1 a)
  begins n id me s k waits at is =
      let t : ℕ = me.0.ticket in let served : k.served ≡ t = served_is s k id me.0 at waits is in
      let fit = k.each id me.0 at in
      let staged : InStage k.served k.next k.drawer k.log id me.0 Waiting = subst (InStage k.served k.next k.drawer k.log id me.0) waits fit.staged in
      let mine : k.drawer k.served ≡ id = ap k.drawer served ∙ staged.2 in
      let one_ticket : tickets_at me.0.stage ≡ 1 = ap tickets_at waits in
      let known : me.0.first ≡ Some first = fit.from (let n : ℕ = length me.0.claims in let a : tickets_at me.0.stage ≤ n = fit.numbered in let g : 0 < n = omega arith in g) in
      ⊎_elim
      (λ h. let x : V = h.0 in let cs = claims_seeing (entries x) me.0.claims in let w : D = seat_view Holding t me.0.first cs in
      let long : length cs ≡ length me.0.claims = length-map me.0.claims (λ c. claim c.number (entries x)) in
      let tq = total_set ticket_count s.views id me.0 w at in let tn = total_set number_count s.views id me.0 w at in (
        w,
        takes 0 (Some x),
        ap (λ hs. get_elem? hs 0) h.1,
        record {
          log = k.log;
          served = k.served;
          next = k.next;
          drawer = k.drawer;
          holder = k.holder;
          words = ap (λ ws. set ws 2 (get_or ws 2 0)) k.words;
          few = k.few;
          ordered = k.ordered;
          each = λ j v there. ⊎_elim
              (λ p. subst (λ (p : ℕ × D). Fits owner first k.served k.next k.drawer k.holder k.log p.0 p.1) (λ i. (sym p.0 i, p.1 i))
              record {
                from = λ _. known;
                claimed = λ i c there. let old = at_mapped (λ c. claim c.number (entries x)) me.0.claims i c there in
                    ((subst (λ n. k.holder n ≡ id) (ap (λ (c : Claim E). c.number) old.2) (fit.claimed i old.0 old.1).0), all_seen owner c.number c.seen k.log (sym (ap (λ (c : Claim E). c.seen) old.2) ∙ h.3));
                numbered = (let n : ℕ = length me.0.claims in let a : tickets_at me.0.stage ≤ n = fit.numbered in omega arith);
                staged = (served, staged.1, staged.2, λ i c there. let old = at_mapped (λ c. claim c.number (entries x)) me.0.claims i c there in sym (ap (λ (c : Claim E). c.seen) old.2) ∙ h.3);
              })
              (λ p. k.each j v p.1)
              (at_set s.views id j w v there);
          waiting = (let a : k.next ≡ k.served + total ticket_count s.views = k.waiting in omega arith);
          shared_out = (let a : total number_count s.views ≡ seats = k.shared_out in omega arith);
          stands = λ n below. stand_set n k.holder s.views id me.0 w at (has_renewed n (entries x) me.0.claims) (k.stands n below);
          in_range = below_set seats s.views id w (λ m h. k.in_range id me.0 at m (had_renewed m (entries x) me.0.claims h)) k.in_range;
          owned = k.owned;
          slot = inr (ap (λ hs. set hs 0 none) h.1, (id, w, set_at s.views id me.0 w at, refl));
        },
        (
          refl,
          (λ _. (
            x,
            refl,
            refl,
            refl,
            (λ p e. h.2 ∙ ap origin (same_value first p (sym known ∙ e))),
            λ i c there. subst (ExtendsByOthers owner c.number c.seen) (sym h.3) (fit.claimed i c there).1,
          )),
          λ miss. absurd (miss is),
        ),
      ))
      (λ h. let j : ℕ = h.1.0 in let v : D = h.1.1 in let f = k.each j v h.1.2 in
      let theirs : InStage k.served k.next k.drawer k.log j v Holding = subst (InStage k.served k.next k.drawer k.log j v) h.1.3 f.staged in
      let same : j ≡ id = sym theirs.2 ∙ ap k.drawer (sym theirs.0) ∙ mine in
      absurd (waiting_not_holding me.0.stage waits (ap (λ (u : D). u.stage) (some-injective me.0 v (sym at ∙ ap (get_elem? s.views) (sym same) ∙ h.1.2)) ∙ h.1.3)))
      k.slot

  -- a seat looks whether its turn has come
  pub looks : (n id : ℕ) (me : M) → me.0.stage ≡ Waiting → Allows K n id me 2 (λ n. n) (Looks origin entries owner (step n 2 0 0 none) me)
  looks n id me waits s k wide at _ = dite (ℕ_discrete (get_or s.words 2 0) (me.0.ticket % 2 ^ 64))
      (λ is. begins n id me s k waits at is)
      (λ miss. (
        me.0,
        keeps,
        tt,
        unmoved s 2 id me (ap (λ ws. set ws 2 (get_or ws 2 0)) k.words ∙ sym k.words) at k,
        (refl, (λ is. absurd (miss is)), λ _. refl),
      ))

  -- what the rule says of the seat whose turn it is
  holding : (s : St) (k : K s) (id : ℕ) (v : D) → get_elem? s.views id ≡ some v → v.stage ≡ Holding
      → (k.served ≡ v.ticket) × (v.ticket < k.next) × (k.drawer k.served ≡ id) × AllHaveSeen k.log v.claims × IsOut origin entries s.homes s.views
  holding s k id v at holds =
      let staged : InStage k.served k.next k.drawer k.log id v Holding = subst (InStage k.served k.next k.drawer k.log id v) holds (k.each id v at).staged in
      (staged.0, staged.1, ap k.drawer staged.0 ∙ staged.2, staged.3, ⊎_elim (λ h. absurd (h.4 id v at holds)) (λ h. h) k.slot)

  -- the events of the turn are made known
  pub counts : (n id : ℕ) (me : M) (xs : List E) (number : ℕ) (seen : List E) (d : ℕ) → me.0.stage ≡ Holding → me.0.claims ≡ claim number seen ∷ []
      → ExtendsByOwn owner number seen xs → length seen + d ≡ length xs → length xs < 2 ^ 64
      → Allows K n id me 0 (λ n. (n + d) % 2 ^ 64) (Counts xs (step n 0 d 0 none) me)
  counts n id me xs number seen d holds one more long small s k wide at _ =
      let now = holding s k id me.0 at holds in let fit = k.each id me.0 at in
      let cs = claims_seeing xs me.0.claims in
      let cs_is : cs ≡ claim number xs ∷ [] = ap (claims_seeing xs) one in
      let w : D = seat_view Holding me.0.ticket me.0.first cs in
      let mine : get_elem? me.0.claims 0 ≡ some (claim number seen) = ap (λ l. get_elem? l 0) one in
      let whole : seen ≡ k.log = now.3 0 (claim number seen) mine in
      let held : k.holder number ≡ id = (fit.claimed 0 (claim number seen) mine).0 in
      let added : ExtendsByOwn owner number k.log xs = (more.0, more.1 ∙ ap (λ l. l ++ more.0) whole, more.2) in
      let tq = total_set ticket_count s.views id me.0 w at in let tn = total_set number_count s.views id me.0 w at in let one_q : tickets_at me.0.stage ≡ 1 = ap tickets_at holds in
      let n1 : length me.0.claims ≡ 1 = ap length one in let n2 : length cs ≡ 1 = ap length cs_is in
      let l : ℕ = length k.log in let m : ℕ = length xs in let sum : l + d ≡ m = (let before : ℕ = length seen in let same : before ≡ l = ap length whole in let all : before + d ≡ m = long in omega arith) in (
        w,
        keeps,
        tt,
        record {
          log = xs;
          served = k.served;
          next = k.next;
          drawer = k.drawer;
          holder = k.holder;
          words = ap (λ ws. set ws 0 ((get_or ws 0 0 + d) % 2 ^ 64)) k.words ∙ ap (λ n. n ∷ k.next % 2 ^ 64 ∷ k.served % 2 ^ 64 ∷ []) (let g : (l + d) % 2 ^ 64 ≡ m = omega (arith, sum, small) in g);
          few = k.few;
          ordered = k.ordered;
          each = λ j v there. ⊎_elim
              (λ p. subst (λ (p : ℕ × D). Fits owner first k.served k.next k.drawer k.holder xs p.0 p.1) (λ i. (sym p.0 i, p.1 i))
              record {
                from = λ _. fit.from (let n : ℕ = length me.0.claims in let a : n ≡ 1 = n1 in let g : 0 < n = omega arith in g);
                claimed = λ i c at_c. let old = only_one number xs cs cs_is i c at_c in
                    (ap k.holder (ap (λ (c : Claim E). c.number) old) ∙ held, all_seen owner c.number c.seen xs (ap (λ (c : Claim E). c.seen) old));
                numbered = omega arith;
                staged = (now.0, now.1, ap k.drawer (sym now.0) ∙ now.2, λ i c at_c. ap (λ (c : Claim E). c.seen) (only_one number xs cs cs_is i c at_c));
              })
              (λ p. let f = k.each j v p.1 in record {
                from = f.from;
                claimed = λ i c at_c. let old = f.claimed i c at_c in
                    (old.0, still_extends owner number c.number c.seen k.log xs (λ e. p.0 (sym old.0 ∙ ap k.holder e ∙ held)) old.1 added);
                numbered = f.numbered;
                staged = stage_else k.served k.served k.next k.drawer k.log xs id j v v.stage p.0 now.2 (let a : ℕ = k.served in let g : a ≤ a + 1 = omega arith in g) f.staged;
              })
              (at_set s.views id j w v there);
          waiting = (let a : k.next ≡ k.served + total ticket_count s.views = k.waiting in omega arith);
          shared_out = (let a : total number_count s.views ≡ seats = k.shared_out in omega arith);
          stands = λ n below. stand_set n k.holder s.views id me.0 w at (has_renewed n xs me.0.claims) (k.stands n below);
          in_range = below_set seats s.views id w (λ m h. k.in_range id me.0 at m (had_renewed m xs me.0.claims h)) k.in_range;
          owned = still_below owner number seats k.log xs (k.in_range id me.0 at number (0, claim number seen, mine, refl)) k.owned added;
          slot = inr (now.4.0, (id, w, set_at s.views id me.0 w at, refl));
        },
        (refl, refl, refl, refl),
      )

  -- the next ticket is served, and the value is at home
  pub serves : (n id : ℕ) (me : M) (x : V) (number : ℕ) (from : V) → me.0.stage ≡ Holding → me.1 ≡ (0, Some x) ∷ [] → me.0.claims ≡ claim number (entries x) ∷ [] → me.0.first ≡ Some from → origin x ≡ origin from
      → Allows K n id me 2 (λ n. (n + 1) % 2 ^ 64) (Serves (step n 2 1 0 none) me)
  serves n id me x number from holds has one source same s k wide at _ =
      let now = holding s k id me.0 at holds in let fit = k.each id me.0 at in let w : D = seat_view Idle 0 me.0.first me.0.claims in
      let whole : entries x ≡ k.log = now.3 0 (claim number (entries x)) (ap (λ l. get_elem? l 0) one) in
      let tq = total_set ticket_count s.views id me.0 w at in let tn = total_set number_count s.views id me.0 w at in let one_q : tickets_at me.0.stage ≡ 1 = ap tickets_at holds in (
        w,
        gives,
        tt,
        record {
          log = k.log;
          served = k.served + 1;
          next = k.next;
          drawer = k.drawer;
          holder = k.holder;
          words = ap (λ ws. set ws 2 ((get_or ws 2 0 + 1) % 2 ^ 64)) k.words ∙ ap (λ n. length k.log ∷ k.next % 2 ^ 64 ∷ n ∷ []) (next_word k.served);
          few = k.few;
          ordered = (let t : ℕ = me.0.ticket in let a : k.served ≡ t = now.0 in let b : t < k.next = now.1 in omega arith);
          each = λ j v there. ⊎_elim
              (λ p. subst (λ (p : ℕ × D). Fits owner first (k.served + 1) k.next k.drawer k.holder k.log p.0 p.1) (λ i. (sym p.0 i, p.1 i))
              record { from = fit.from; claimed = fit.claimed; numbered = (let n : ℕ = length me.0.claims in let g : 0 ≤ n = omega arith in g); staged = tt })
              (λ p. let f = k.each j v p.1 in record {
                from = f.from;
                claimed = f.claimed;
                numbered = f.numbered;
                staged = stage_else k.served (k.served + 1) k.next k.drawer k.log k.log id j v v.stage p.0 now.2 (let a : ℕ = k.served in let g : a + 1 ≤ a + 1 = omega arith in g) f.staged;
              })
              (at_set s.views id j w v there);
          waiting = (let a : k.next ≡ k.served + total ticket_count s.views = k.waiting in omega arith);
          shared_out = (let a : total number_count s.views ≡ seats = k.shared_out in omega arith);
          stands = λ n below. stand_set n k.holder s.views id me.0 w at (λ h. h) (k.stands n below);
          in_range = below_set seats s.views id w (k.in_range id me.0 at) k.in_range;
          owned = k.owned;
          slot = inl (
            x,
            (λ i. put_back (now.4.0 i) (has i)),
            same ∙ ap origin (same_value from first (sym source ∙ fit.from (let n : ℕ = length me.0.claims in let a : n ≡ 1 = ap length one in let g : 0 < n = omega arith in g))),
            whole,
            λ j v there. ⊎_elim (λ p. subst (λ (u : D). u.stage ≢ Holding) p.1 (idle_not_holding Idle refl))
                (λ p. not_holding k.served k.next k.drawer k.log id j v p.0 now.2 (k.each j v p.1).staged) (at_set s.views id j w v there),
          );
        },
        (refl, refl, refl, refl),
      )
