-- What a write does to the bytes of a file, byte by byte.
use Rattle.std.proofs.Common.{◌≡◌, ◌<◌, ◌≤◌, inl, inr, ⊎_elim, ℕ, ◌+◌, ◌-◌, List, ◌++◌, length, take, drop, replicate, slice_index, refl, sym, ◌∙◌, ap, subst, arith, append_assoc, length-append}
use Rattle.std.proofs.lemmas.List.{get_or-take, get_or-drop, take_at, drop_at, length-take, length-replicate}
use Rattle.afl_outside.specs.Disk.{Torn, written}
use Rattle.afl_outside.specs.Lemmas.TornLaws.{Torn-written}
use Rattle.page_chain.specs.Places.{SameBut}

-- a torn write within the file leaves all other bytes
pub torn_same : (at n : ℕ) (old new : List ℕ) → at + n ≤ length old → Torn at n old new → SameBut at n old new
torn_same at n old new within torn = record {
  size = omega (arith, torn.no_shorter, torn.no_longer);
  each = λ k where_. ⊎_elim (below k) (above k) where_;
}
  where
    front : take at new ≡ take at old
    front = subst (λ (m : ℕ). take m new ≡ take m old) (omega arith) torn.before

    below : (k : ℕ) → k < at → slice_index new k ≡ slice_index old k
    below k low = sym (get_or-take at new k 0 low) ∙ ap (λ (xs : List ℕ). slice_index xs k) front ∙ get_or-take at old k 0 low

    above : (k : ℕ) → at + n ≤ k → slice_index new k ≡ slice_index old k
    above k high =
        let same : slice_index new (at + n + (k - (at + n))) ≡ slice_index old (at + n + (k - (at + n))) =
        sym (get_or-drop (at + n) new (k - (at + n)) 0) ∙ ap (λ (xs : List ℕ). slice_index xs (k - (at + n))) torn.after ∙ get_or-drop (at + n) old (k - (at + n)) 0 in
        subst (λ (m : ℕ). slice_index new m ≡ slice_index old m) (omega arith) same

pub written_same : (at : ℕ) (bytes old : List ℕ) → at + length bytes ≤ length old → SameBut at (length bytes) old (written at bytes old)
written_same at bytes old within = torn_same at (length bytes) old (written at bytes old) within (Torn-written at bytes old)

-- the written bytes stand at their place
pub written_byte : (at k : ℕ) (bytes old : List ℕ) → at ≤ length old → k < length bytes → slice_index (written at bytes old) (at + k) ≡ slice_index bytes k
written_byte at k bytes old within low =
    let front = take at (old ++ replicate (at - length old) 0) in
    let rest = drop (at + length bytes) old in
    let size : length front ≡ at = omega (arith, length-take at (old ++ replicate (at - length old) 0), length-append old (replicate {A = ℕ} (at - length old) 0), length-replicate {A = ℕ} (at - length old) 0) in
    let behind : drop at (front ++ bytes ++ rest) ≡ bytes ++ rest = ap (λ (xs : List ℕ). drop at xs) (append_assoc front bytes rest) ∙ drop_at front (bytes ++ rest) at size in
    sym (get_or-drop at (front ++ bytes ++ rest) k 0) ∙ ap (λ (xs : List ℕ). slice_index xs k) behind
    ∙ sym (get_or-take (length bytes) (bytes ++ rest) k 0 low) ∙ ap (λ (xs : List ℕ). slice_index xs k) (take_at bytes rest (length bytes) refl)

pub same_trans : (at n : ℕ) (a b c : List ℕ) → SameBut at n a b → SameBut at n b c → SameBut at n a c
same_trans at n a b c p q = record { size = q.size ∙ p.size; each = λ k place. q.each k place ∙ p.each k place }

pub same_sym : (at n : ℕ) (a b : List ℕ) → SameBut at n a b → SameBut at n b a
same_sym at n a b p = record { size = sym p.size; each = λ k place. sym (p.each k place) }

-- fewer bytes may have changed
pub same_wide : (at n at' n' : ℕ) (a b : List ℕ) → at' ≤ at → at + n ≤ at' + n' → SameBut at n a b → SameBut at' n' a b
same_wide at n at' n' a b lower higher p = record {
  size = p.size;
  each = λ k place. p.each k (⊎_elim (λ (low : k < at'). inl (less k low)) (λ (high : at' + n' ≤ k). inr (more k high)) place);
}
  where
    less : (k : ℕ) → k < at' → k < at
    less k low = omega arith

    more : (k : ℕ) → at' + n' ≤ k → at + n ≤ k
    more k high = omega arith
