-- Lines with numbers that rise.
use Rattle.std.proofs.Common.{◌≡◌, ℕ, suc, ◌+◌, ◌<◌, List, [], ◌∷◌, ◌++◌, length, take, slice_index_or, sym, ap, ◌∙◌, arith, append_assoc}
use Rattle.std.proofs.lemmas.List.{append-nil, take_more, length-take}
use Rattle.std.specs.Prelude.{codes}
use Rattle.std.specs.Fmt.{decimal}
use Rattle.afl_lexer.specs.Spelling.{quoted_text}
use Rattle.logical_plan.specs.declared.names.NameEntry.{NameEntry}
use Rattle.schema_grammar.specs.SchemaBytes.{schema_bytes}
use Rattle.schema_grammar.proofs.Joined.{ended, more}
use Rattle.result_print.specs.Listings.{array_line, numbered}

numbered_append : {A : Type 0} (line : ℕ → A → List ℕ) (k : ℕ) (xs ys : List A) → numbered line k (xs ++ ys) ≡ numbered line k xs ++ numbered line (k + length xs) ys
numbered_append line k [] ys = let same : k ≡ k + 0 = omega arith in ap (λ n. numbered line n ys) same
numbered_append line k (x ∷ xs) ys =
    let same : (k + 1) + length xs ≡ k + suc (length xs) = omega arith in
    ap (λ l. line k x ++ l) (numbered_append line (k + 1) xs ys ∙ ap (λ n. numbered line (k + 1) xs ++ numbered line n ys) same)
    ∙ sym (append_assoc (line k x) (numbered line (k + 1) xs) (numbered line (k + suc (length xs)) ys))

-- one more line
numbered_step : {A : Type 0} (line : ℕ → A → List ℕ) (k : ℕ) (items : List A) (at number : ℕ) (item d : A) → at < length items → number ≡ k + at
    → item ≡ slice_index_or items at d → numbered line k (take (at + 1) items) ≡ numbered line k (take at items) ++ line number item
numbered_step line k items at number item d h same is =
    let before = numbered line k (take at items) in
    let place : k + length (take at items) ≡ number = omega (arith, length-take at items) in
    ap (numbered line k) (take_more items at d h)
    ∙ numbered_append line k (take at items) (slice_index_or items at d ∷ [])
    ∙ ap (λ n. before ++ (line n (slice_index_or items at d) ++ [])) place
    ∙ ap (λ l. before ++ l) (append-nil (line number (slice_index_or items at d)))
    ∙ ap (λ x. before ++ line number x) (sym is)

-- a loop's step: the text before, and a line
pub numbered_after : {A : Type 0} (line : ℕ → A → List ℕ) (k : ℕ) (items : List A) (at number : ℕ) (item d : A) (start before after : List ℕ) → at < length items → number ≡ k + at
    → item ≡ slice_index_or items at d → before ≡ start ++ numbered line k (take at items) → after ≡ before ++ line number item
    → after ≡ start ++ numbered line k (take (at + 1) items)
numbered_after line k items at number item d start before after h same is p q =
    q ∙ ap (λ l. l ++ line number item) p ∙ append_assoc start (numbered line k (take at items)) (line number item)
    ∙ ap (λ l. start ++ l) (sym (numbered_step line k items at number item d h same is))

-- the line of an array, part by part
pub line_made : (k : ℕ) (entry : NameEntry) (name start number named comma all : List ℕ) → name ≡ entry.name
    → number ≡ start ++ (codes "{" ++ decimal k ++ codes "} ") → named ≡ number ++ quoted_text name → comma ≡ named ++ codes ","
    → all ≡ comma ++ quoted_text (schema_bytes entry.schema) → all ++ codes "\n" ≡ start ++ array_line k entry
line_made k entry name start number named comma all is p q r s =
    let text = quoted_text entry.name in
    let first = more start number named (codes "{" ++ decimal k ++ codes "} ") text p (q ∙ ap (λ n. number ++ quoted_text n) is) in
    let second = more start named comma (codes "{" ++ decimal k ++ codes "} " ++ text) (codes ",") first r in
    let third = more start comma all (codes "{" ++ decimal k ++ codes "} " ++ text ++ codes ",") (quoted_text (schema_bytes entry.schema)) second s in
    ended start all (codes "{" ++ decimal k ++ codes "} " ++ text ++ codes "," ++ quoted_text (schema_bytes entry.schema)) (codes "\n") third
