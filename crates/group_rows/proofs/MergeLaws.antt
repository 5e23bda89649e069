-- Groups of two parts, head by head.
use Rattle.std.proofs.Common.{◌≡◌, ℕ, ◌+◌, ◌^◌, ◌<◌, ◌≤◌, ◌↔◌, IsTrue, OnOk, IfOk, Result, Ok, Err, Bool, false, cond, List, [], ◌∷◌, ◌++◌, length, take, drop, Option, Some, None, refl, sym, ap, ◌∙◌, subst, append_assoc, arith}
use Rattle.std.proofs.lemmas.List.{append-nil}
use Rattle.std.specs.Prelude.{slice_index_or}
use Rattle.std.specs.Ordering.{is_eq}
use Rattle.std.specs.declared.cmp.Ordering.{Ordering}
use Rattle.std.specs.declared.cmp.Ordering.TheVariants.{Less, Equal, Greater}
use Rattle.array_rows.specs.Rows.{Coordinate, row_major}
use Rattle.array_rows.proofs.RowsLemmas.{row_major_total, row_major_exact}
use Rattle.logical_plan.specs.declared.parts.Aggregate.{Aggregate}
use Rattle.agg_states.specs.Inner.Summary.{Summary}
use Rattle.group_rows.specs.declared.rows.groups.Group.{Group}
use Rattle.group_rows.specs.Counts.{cells_of, cells_in}
use Rattle.group_rows.specs.Grouped.{ComesBefore, AreInOrder, states_at, AreGroupsOf}
use Rattle.group_rows.specs.Inner.Merged.{AreBothOf, IsBothAt, AreMerged, AreMoved, IsMove, IsSamePlace}
use Rattle.group_rows.specs.Sets.{Sets, both_sets, AreApartSets}
use Rattle.group_rows.proofs.RowLemmas.{turned, turned_back}
use Rattle.group_rows.proofs.StateLaws.{group_both}

before_further : (a b : Coordinate) (groups : List Group) → row_major a b ≡ Less → ComesBefore b groups → ComesBefore a groups
before_further a b [] l h = tt
before_further a b (x ∷ groups) l h = (row_major_total.trans a b x.at.items l h.0, before_further a b groups l h.1)

none_before : (c : Coordinate) (groups : List Group) → ComesBefore c groups → states_at groups c ≡ None
none_before c [] h = refl
none_before c (x ∷ groups) h =
    ap (λ (o : Ordering). cond (is_eq o) (Some x.states) (states_at groups c)) (turned c x.at.items h.0) ∙ none_before c groups h.1

-- ---- the first groups of two parts, merged

first_left : (x : Group) (left right rest : List Group) → AreInOrder (x ∷ left) → ComesBefore x.at.items right → AreMerged left right rest → AreMerged (x ∷ left) right (x ∷ rest)
first_left x left right rest r b m = record {
  in_order = (m.behind x.at.items r.0 b, m.in_order);
  behind = λ c h k. (h.0, m.behind c h.1 k);
  each = λ c. cases c (row_major x.at.items c) refl;
}
  where
    cases : (c : Coordinate) (o : Ordering) → row_major x.at.items c ≡ o → IsBothAt (cond (is_eq o) (Some x.states) (states_at left c)) (states_at right c) (cond (is_eq o) (Some x.states) (states_at rest c))
    cases c Less e = m.each c
    cases c Greater e = m.each c
    cases c Equal e =
        let none : states_at right c ≡ None = ap (states_at right) (sym (row_major_exact x.at.items c e)) ∙ none_before x.at.items right b in
        subst (λ (o : Option (List Summary)). IsBothAt (Some x.states) o (Some x.states)) (sym none) refl

first_right : (y : Group) (left right rest : List Group) → AreInOrder (y ∷ right) → ComesBefore y.at.items left → AreMerged left right rest → AreMerged left (y ∷ right) (y ∷ rest)
first_right y left right rest r b m = record {
  in_order = (m.behind y.at.items b r.0, m.in_order);
  behind = λ c h k. (k.0, m.behind c h k.1);
  each = λ c. cases c (row_major y.at.items c) refl;
}
  where
    cases : (c : Coordinate) (o : Ordering) → row_major y.at.items c ≡ o → IsBothAt (states_at left c) (cond (is_eq o) (Some y.states) (states_at right c)) (cond (is_eq o) (Some y.states) (states_at rest c))
    cases c Less e = m.each c
    cases c Greater e = m.each c
    cases c Equal e =
        let none : states_at left c ≡ None = ap (states_at left) (sym (row_major_exact y.at.items c e)) ∙ none_before y.at.items left b in
        subst (λ (o : Option (List Summary)). IsBothAt o (Some y.states) (Some y.states)) (sym none) refl

first_both : (x y z : Group) (left right rest : List Group) → x.at.items ≡ y.at.items → z.at.items ≡ x.at.items → AreBothOf x.states y.states z.states
    → AreInOrder (x ∷ left) → AreInOrder (y ∷ right) → AreMerged left right rest → AreMerged (x ∷ left) (y ∷ right) (z ∷ rest)
first_both x y z left right rest same own b rx ry m = record {
  in_order = (
    subst (λ (c : Coordinate). ComesBefore c rest) (sym own) (m.behind x.at.items rx.0 (subst (λ (c : Coordinate). ComesBefore c right) (sym same) ry.0)),
    m.in_order,
  );
  behind = λ c h k. (subst (λ (d : Coordinate). row_major c d ≡ Less) (sym own) h.0, m.behind c h.1 k.1);
  each = λ c.
      subst (λ (d : Coordinate). IsBothAt (states_at (x ∷ left) c) (states_at (y ∷ right) c) (cond (is_eq (row_major d c)) (Some z.states) (states_at rest c))) (sym own)
      (subst (λ (d : Coordinate). IsBothAt (states_at (x ∷ left) c) (cond (is_eq (row_major d c)) (Some y.states) (states_at right c)) (cond (is_eq (row_major x.at.items c)) (Some z.states) (states_at rest c))) same
      (cases c (row_major x.at.items c)));
}
  where
    cases : (c : Coordinate) (o : Ordering) → IsBothAt (cond (is_eq o) (Some x.states) (states_at left c)) (cond (is_eq o) (Some y.states) (states_at right c)) (cond (is_eq o) (Some z.states) (states_at rest c))
    cases c Less = m.each c
    cases c Greater = m.each c
    cases c Equal = b

-- ---- moves

-- a group at the end of the merged ones leads on
leads_on : (merged merged' left right left' right' : List Group) (z : Group) → merged' ≡ merged ++ z ∷ [] → ((rest : List Group) → AreMerged left' right' rest → AreMerged left right (z ∷ rest))
    → (all_left all_right : List Group) → ((rest : List Group) → AreMerged left right rest → AreMerged all_left all_right (merged ++ rest))
    → (rest : List Group) → AreMerged left' right' rest → AreMerged all_left all_right (merged' ++ rest)
leads_on merged merged' left right left' right' z e f all_left all_right k rest m =
    subst (AreMerged all_left all_right) (sym (append_assoc merged (z ∷ []) rest) ∙ ap (λ (zs : List Group). zs ++ rest) (sym e)) (k (z ∷ rest) (f rest m))

pub left_moves : (merged merged' left left' right : List Group) (x y : Group) (a b : List Group) → left ≡ x ∷ a → right ≡ y ∷ b → row_major x.at.items y.at.items ≡ Less → merged' ≡ merged ++ take 1 left → left' ≡ drop 1 left → IsMove merged left right merged' left' right
left_moves merged merged' left left' right x y a b l r e m n = λ rl rr.
    let rx : AreInOrder (x ∷ a) = subst AreInOrder l rl in
    let ry : AreInOrder (y ∷ b) = subst AreInOrder r rr in
    let rest : left' ≡ a = n ∙ ap (drop 1) l in
    let own : ComesBefore x.at.items right = subst (ComesBefore x.at.items) (sym r) (e, before_further x.at.items y.at.items b e ry.0) in
    record {
      left_in_order = subst AreInOrder (sym rest) rx.1;
      right_in_order = rr;
      leads = leads_on merged merged' left right left' right x (m ∙ ap (λ (zs : List Group). merged ++ take 1 zs) l)
          (λ more h. subst (λ (zs : List Group). AreMerged zs right (x ∷ more)) (sym l) (first_left x a right more rx own (subst (λ (zs : List Group). AreMerged zs right more) rest h)));
    }

pub right_moves : (merged merged' left right right' : List Group) (x y : Group) (a b : List Group) → left ≡ x ∷ a → right ≡ y ∷ b → row_major x.at.items y.at.items ≡ Greater → merged' ≡ merged ++ take 1 right → right' ≡ drop 1 right → IsMove merged left right merged' left right'
right_moves merged merged' left right right' x y a b l r f m n = λ rl rr.
    let e : row_major y.at.items x.at.items ≡ Less = turned_back x.at.items y.at.items f in
    let rx : AreInOrder (x ∷ a) = subst AreInOrder l rl in
    let ry : AreInOrder (y ∷ b) = subst AreInOrder r rr in
    let rest : right' ≡ b = n ∙ ap (drop 1) r in
    let own : ComesBefore y.at.items left = subst (ComesBefore y.at.items) (sym l) (e, before_further y.at.items x.at.items a e rx.0) in
    record {
      left_in_order = rl;
      right_in_order = subst AreInOrder (sym rest) ry.1;
      leads = leads_on merged merged' left right left right' y (m ∙ ap (λ (zs : List Group). merged ++ take 1 zs) r)
          (λ more h. subst (λ (zs : List Group). AreMerged left zs (y ∷ more)) (sym r) (first_right y left b more ry own (subst (λ (zs : List Group). AreMerged left zs more) rest h)));
    }

pub both_move : (merged merged' left right left' right' : List Group) (x y z : Group) → left ≡ x ∷ left' → right ≡ y ∷ right' → IsSamePlace left right → z.at ≡ x.at → AreBothOf x.states y.states z.states → merged' ≡ merged ++ z ∷ []
    → IsMove merged left right merged' left' right'
both_move merged merged' left right left' right' x y z l r same own b m = λ rl rr.
    let rx : AreInOrder (x ∷ left') = subst AreInOrder l rl in
    let ry : AreInOrder (y ∷ right') = subst AreInOrder r rr in
    let here : IsSamePlace (x ∷ left') (y ∷ right') = subst (λ (zs : List Group). IsSamePlace zs (y ∷ right')) l (subst (IsSamePlace left) r same) in
    record {
      left_in_order = rx.1;
      right_in_order = ry.1;
      leads = leads_on merged merged' left right left' right' z m
          (λ more h.
          subst (λ (zs : List Group). AreMerged zs right (z ∷ more)) (sym l)
          (subst (λ (zs : List Group). AreMerged (x ∷ left') zs (z ∷ more)) (sym r)
          (first_both x y z left' right' more here (λ i. (own i).items) b rx ry h)));
    }

pub head : (xs : List Group) (x : Group) → 0 < length xs → x ≡ slice_index_or xs 0 x → xs ≡ x ∷ drop 1 xs
head [] x l e = absurd (omega arith)
head (y ∷ ys) x l e = ap (λ (z : Group). z ∷ ys) (sym e)

pub same_place : (left right a b : List Group) (x y : Group) → left ≡ x ∷ a → right ≡ y ∷ b → row_major x.at.items y.at.items ≡ Equal → IsSamePlace left right
same_place left right a b x y l r e =
    subst (λ (zs : List Group). IsSamePlace zs right) (sym l) (subst (IsSamePlace (x ∷ a)) (sym r) (row_major_exact x.at.items y.at.items e))

-- ---- fewer groups are left

pub left_fewer : (left right left' : List Group) → 0 < length left → left' ≡ drop 1 left → length left' + length right < length left + length right
left_fewer [] right left' some e = absurd (omega arith)
left_fewer (x ∷ left) right left' some e = let n = ap length e in omega (arith, n)

pub right_fewer : (left right right' : List Group) → 0 < length right → right' ≡ drop 1 right → length left + length right' < length left + length right
right_fewer left [] right' some e = absurd (omega arith)
right_fewer left (y ∷ right) right' some e = let n = ap length e in omega (arith, n)

pub both_fewer : (left right left' right' : List Group) (x y : Group) → left ≡ x ∷ left' → right ≡ y ∷ right' → length left' + length right' < length left + length right
both_fewer left right left' right' x y l r = let n = ap length l in let m = ap length r in omega (arith, n, m)

pub room_of_firsts : (left right left' right' : List Group) (x y : Group) → left ≡ x ∷ left' → right ≡ y ∷ right' → cells_in left + cells_in right < 2 ^ 63 → cells_of x.states + cells_of y.states < 2 ^ 63
room_of_firsts left right left' right' x y l r room = let n = ap cells_in l in let m = ap cells_in r in omega (arith, n, m, room)

pub on_ok : {X E : Type 0} {P Q : Type 0} (r : Result X E) → OnOk r P → (P → Q) → OnOk r Q
on_ok (Ok x) p f = f p
on_ok (Err e) p f = p

pub ok_now : {X E : Type 0} {P : Type 0} (r : Result X E) → P → OnOk r P
ok_now (Ok x) p = p
ok_now (Err e) p = tt

pub if_ok : {X E : Type 0} {P Q : X → Type 0} (r : Result X E) → IfOk r P → ((x : X) → P x → Q x) → IfOk r Q
if_ok (Ok x) p f = f x p
if_ok (Err e) p f = p

pub further_moved : (merged merged' merged'' left left' left'' right right' right'' : List Group) → IsMove merged left right merged' left' right' → IsMove merged' left' right' merged'' left'' right'' → IsMove merged left right merged'' left'' right''
further_moved merged merged' merged'' left left' left'' right right' right'' f g = λ rl rr.
    let first = f rl rr in
    let second = g first.left_in_order first.right_in_order in
    record { left_in_order = second.left_in_order; right_in_order = second.right_in_order; leads = λ al ar k. second.leads al ar (first.leads al ar k) }

pub not_moved : (merged left right : List Group) → merged ≡ [] → IsMove [] left right merged left right
not_moved merged left right e = λ rl rr. record { left_in_order = rl; right_in_order = rr; leads = λ al ar k. subst (λ (zs : List Group). (rest : List Group) → AreMerged left right rest → AreMerged al ar (zs ++ rest)) (sym e) k }

none_left : (right : List Group) → AreInOrder right → AreMerged [] right right
none_left right r = record { in_order = r; behind = λ c h k. k; each = λ c. cases (states_at right c) }
  where
    cases : (o : Option (List Summary)) → IsBothAt None o o
    cases None = tt
    cases (Some ss) = refl

none_right : (left : List Group) → AreInOrder left → AreMerged left [] left
none_right left r = record { in_order = r; behind = λ c h k. h; each = λ c. cases (states_at left c) }
  where
    cases : (o : Option (List Summary)) → IsBothAt o None o
    cases None = tt
    cases (Some ss) = refl

-- where one of the two is at its end, what is left of both comes one after the other
pub at_end : (b : Bool) (merged left right left0 right0 end end' : List Group) → b ≡ false → (IsTrue b ↔ (0 < length left) × (0 < length right)) → AreMoved [] left0 right0 merged left right → end ≡ merged ++ left → end' ≡ end ++ right → AreMerged left0 right0 end'
at_end b merged [] right left0 right0 end end' f t m e e' =
    subst (AreMerged left0 right0) (sym (e' ∙ ap (λ (zs : List Group). zs ++ right) (e ∙ append-nil merged)))
    (m.leads left0 right0 (λ rest h. h) right (none_left right m.right_in_order))
at_end b merged (x ∷ left) [] left0 right0 end end' f t m e e' =
    subst (AreMerged left0 right0) (sym (e' ∙ append-nil end ∙ e))
    (m.leads left0 right0 (λ rest h. h) (x ∷ left) (none_right (x ∷ left) m.left_in_order))
at_end b merged (x ∷ left) (y ∷ right) left0 right0 end end' f t m e e' = absurd (false_is_not b f (t.1 (omega arith, omega arith)))
  where
    false_is_not : (c : Bool) → c ≡ false → IsTrue c → ⊥
    false_is_not c g h = cc

-- ---- counts

pub cells_append : (a b : List Group) → cells_in (a ++ b) ≡ cells_in a + cells_in b
cells_append [] b = omega arith
cells_append (x ∷ a) b =
    let e = cells_append a b in
    omega (arith, e)

pub cells_moved : (merged merged' groups groups' : List Group) → merged' ≡ merged ++ take 1 groups → groups' ≡ drop 1 groups → cells_in merged' + cells_in groups' ≡ cells_in merged + cells_in groups
cells_moved merged merged' [] groups' m n =
    let e = ap cells_in m ∙ cells_append merged [] in
    let f = ap cells_in n in
    omega (arith, e, f)
cells_moved merged merged' (x ∷ groups) groups' m n =
    let e = ap cells_in m ∙ cells_append merged (x ∷ []) in
    let f = ap cells_in n in
    omega (arith, e, f)

pub cells_left : (merged merged' left left' right : List Group) → merged' ≡ merged ++ take 1 left → left' ≡ drop 1 left → cells_in merged' + (cells_in left' + cells_in right) ≤ cells_in merged + (cells_in left + cells_in right)
cells_left merged merged' left left' right m n =
    let e = cells_moved merged merged' left left' m n in
    omega (arith, e)

pub cells_right : (merged merged' left right right' : List Group) → merged' ≡ merged ++ take 1 right → right' ≡ drop 1 right → cells_in merged' + (cells_in left + cells_in right') ≤ cells_in merged + (cells_in left + cells_in right)
cells_right merged merged' left right right' m n =
    let e = cells_moved merged merged' right right' m n in
    omega (arith, e)

pub cells_at_end : (merged left right end end' : List Group) (n : ℕ) → end ≡ merged ++ left → end' ≡ end ++ right → cells_in merged + (cells_in left + cells_in right) ≤ n → cells_in end' ≤ n
cells_at_end merged left right end end' n e f h =
    let a = ap cells_in e ∙ cells_append merged left in
    let b = ap cells_in f ∙ cells_append end right in
    omega (arith, a, b, h)

pub cells_united : (merged merged' left right left' right' : List Group) (x y z : Group) → left ≡ x ∷ left' → right ≡ y ∷ right' → merged' ≡ merged ++ z ∷ [] → cells_of z.states ≤ cells_of x.states + cells_of y.states
    → cells_in merged' + (cells_in left' + cells_in right') ≤ cells_in merged + (cells_in left + cells_in right)
cells_united merged merged' left right left' right' x y z l r m h =
    let a = ap cells_in l in
    let b = ap cells_in r in
    let e = ap cells_in m ∙ cells_append merged (z ∷ []) in
    omega (arith, a, b, e, h)

-- ---- groups of sets

pub groups_both : (gs : List Aggregate) (own other : Sets) (left right merged : List Group) → AreGroupsOf gs own left → AreGroupsOf gs other right → AreApartSets own other → AreMerged left right merged → AreGroupsOf gs (both_sets own other) merged
groups_both gs own other left right merged h k p m = record {
  in_order = m.in_order;
  each = λ c. group_both gs (own c) (other c) (states_at left c) (states_at right c) (states_at merged c) (h.each c) (k.each c) (p c) (m.each c);
}
