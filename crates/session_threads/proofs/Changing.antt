-- What for_each_mut did to a vector.
use Rattle.std.proofs.Common.{◌≡◌, ◌∙◌, ℕ, List, ◌++◌, length, take, drop, get_or, ap, refl, sym, subst}
use denote.Ref.{MutBor}
use denote.Param.Members.{Shared}
use Rattle.std.specs.Fork.{ChangesEach}
use Rattle.std.proofs.lemmas.List.{take_at}
use Rattle.session_threads.specs.Inner.Each.{ChangesAll}

module _ {T : Type 0} (Changes : T → T → Type 0) where
  -- both ends of a change under other names
  change_of : (x y before after : T) → before ≡ x → after ≡ y → Changes before after → Changes x y
  change_of x y before after same left change =
      subst (λ v. Changes v y) same (subst (λ v. Changes before v) left change)

  -- what a vector holds whose items were lent, and changed each by itself
  pub changed_whole : (old was new : List T) (count : ℕ) → was ≡ old → count ≡ length old → ChangesAll Changes was new →
      ChangesAll Changes old (take count (new ++ drop (length new) old))
  changed_whole old was new count same full change =
      let whole : count ≡ length new = full ∙ ap length (sym same) ∙ sym change.count in
      let left : take count (new ++ drop (length new) old) ≡ new =
      ap (λ n. take n (new ++ drop (length new) old)) whole ∙ take_at new (drop (length new) old) (length new) refl in
      subst (λ l. ChangesAll Changes old l) (sym left) (subst (λ l. ChangesAll Changes l new) same change)

  module _ {F : Type 0} (g : Shared F (ℕ × (MutBor T × Unit {0})) ((Unit {0}) × (MutBor T × Unit {0}))) (f : F) where
    pub all_changed : (old new : List T) → ((i : ℕ) (p q : MutBor T) → g.post f (i, (p, tt)) (tt, (q, tt)) → Changes p.now q.now) → length new ≡ length old →
        ChangesEach g f old new → ChangesAll Changes old new
    all_changed old new says len each = record {
      count = len;
      each = λ k item near.
          let change = (each k item near).1 in
          change_of (get_or old k item) (get_or new k item) change.argument.now change.after_call.now change.argument_is change.left
          (says k change.argument change.after_call change.call);
    }
