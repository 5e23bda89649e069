-- The parts of a tree and their printed forms.
use Rattle.std.proofs.Common.{◌≡◌, ℕ, zero, suc, ◌+◌, ◌-◌, ◌≤◌, ◌<◌, List, [], ◌∷◌, ◌++◌, length, take, drop, slice_index_or, sym, ap, subst, ◌∙◌, arith, append_assoc}
use Rattle.std.specs.List.{flat_map, join_with_byte}
use Rattle.std.proofs.lemmas.List.{append-nil, flat_map_more, take_all, take_more}
use Rattle.cell_values.specs.declared.name.Span.{Span}
use Rattle.afl_trees.specs.Term.{Term, to_terms, term_size, terms_size}
use Rattle.afl_trees.specs.Inner.View.{term_of}
use Rattle.afl_trees.specs.declared.tree.Node.{Node}
use Rattle.afl_trees.specs.Print.{printed, all_printed}

-- a comma and a printed form
abbrev pub behind_comma : Term → List ℕ
behind_comma t = 44 ∷ printed t

joined : (t : Term) (ts : List Term) → join_with_byte 44 (all_printed (to_terms (t ∷ ts))) ≡ printed t ++ flat_map behind_comma ts
joined t [] = sym (append-nil (printed t))
joined t (u ∷ us) = ap (λ l. printed t ++ 44 ∷ l) (joined u us)

-- the others, as a loop has them
abbrev pub others : List Term → List Term
others ts = take (length ts - 1) (drop 1 ts)

others_are : (t : Term) (ts : List Term) → others (t ∷ ts) ≡ ts
others_are t ts = take_all (length (t ∷ ts) - 1) ts (omega arith)

-- what is written of arguments: the first, and the others behind commas
pub joined_after : (ts : List Term) (t : Term) (i : ℕ) (start first all : List ℕ) → 1 ≤ length ts → t ≡ slice_index_or ts 0 t → length (others ts) ≤ i
    → first ≡ start ++ printed t → all ≡ first ++ flat_map behind_comma (take i (others ts)) → all ≡ start ++ join_with_byte 44 (all_printed (to_terms ts))
joined_after [] t i start first all some is whole p q = absurd (omega arith)
joined_after (u ∷ us) t i start first all some is whole p q =
    q ∙ ap (λ l. first ++ flat_map behind_comma l) (take_all i (others (u ∷ us)) whole ∙ others_are u us) ∙ ap (λ l. l ++ flat_map behind_comma us) (p ∙ ap (λ x. start ++ printed x) is)
    ∙ append_assoc start (printed u) (flat_map behind_comma us) ∙ ap (λ l. start ++ l) (sym (joined u us))

-- one more item behind those that a loop has written
pub flat_more : {T : Type 0} (f : T → List ℕ) (start : List ℕ) (xs : List T) (i : ℕ) (d : T) → i < length xs
    → start ++ flat_map f (take i xs) ++ f (slice_index_or xs i d) ≡ start ++ flat_map f (take (i + 1) xs)
flat_more f start xs i d h = flat_map_more f start (take i xs) (slice_index_or xs i d) ∙ ap (λ l. start ++ flat_map f l) (sym (take_more xs i d h))

pub written_more : (ts : List Term) (i : ℕ) (t : Term) (first before comma after : List ℕ) → i < length ts → t ≡ slice_index_or ts i t
    → before ≡ first ++ flat_map behind_comma (take i ts) → comma ≡ before ++ 44 ∷ [] → after ≡ comma ++ printed t
    → after ≡ first ++ flat_map behind_comma (take (i + 1) ts)
written_more ts i t first before comma after h is p q r =
    r ∙ ap (λ l. l ++ printed t) q ∙ append_assoc before (44 ∷ []) (printed t) ∙ ap (λ l. l ++ behind_comma t) p
    ∙ ap (λ x. first ++ flat_map behind_comma (take i ts) ++ behind_comma x) is ∙ flat_more behind_comma first ts i t h

-- a tree by what it reads as
pub printed_view : (span : Span) {node part : Node} {t : Term} → term_of span node ≡ t → node ≡ part → printed (term_of span part) ≡ printed t
printed_view span v e = ap (λ n. printed (term_of span n)) (sym e) ∙ ap printed v

pub size_view : (span : Span) {node part : Node} {t : Term} → term_of span node ≡ t → node ≡ part → term_size (term_of span part) ≡ term_size t
size_view span v e = ap (λ n. term_size (term_of span n)) (sym e) ∙ ap term_size v

-- an argument is no larger than all of them
pub part_size : (ts : List Term) (i : ℕ) (d : Term) → i < length ts → term_size (slice_index_or ts i d) ≤ terms_size (to_terms ts)
part_size [] i d h = absurd (omega arith)
part_size (t ∷ ts) zero d h = omega arith
part_size (t ∷ ts) (suc i) d h = omega (arith, part_size ts i d (omega arith))

pub later_size : (ts : List Term) (i : ℕ) (d : Term) → i < length (others ts) → term_size (slice_index_or (others ts) i d) ≤ terms_size (to_terms ts)
later_size [] i d h = absurd (omega arith)
later_size (t ∷ ts) i d h =
    let same : others (t ∷ ts) ≡ ts = others_are t ts in
    let part : term_size (slice_index_or ts i d) ≤ terms_size (to_terms ts) = part_size ts i d (subst (λ (l : List Term). i < length l) same h) in
    subst (λ l. term_size (slice_index_or l i d) ≤ terms_size (to_terms (t ∷ ts))) (sym same) (omega (arith, part))
