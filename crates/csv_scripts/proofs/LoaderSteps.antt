-- A loader's steps.
use Rattle.std.proofs.Common.{◌≡◌, ℕ, ◌+◌, ◌≤◌, true, List, [], ◌∷◌, ◌++◌, length, refl, sym, ap, subst, ◌∙◌, arith, append_assoc}
use Rattle.std.specs.Prelude.{if◌then◌else◌}
use Rattle.std.proofs.lemmas.Bool.{lt-ltb}
use Rattle.std.proofs.lemmas.List.{append-nil, length-append, flat_map_more}
use Rattle.cell_values.specs.declared.datum.Datum.{Datum}
use Rattle.csv_scripts.specs.declared.plan.LoadPlan.{LoadPlan}
use Rattle.csv_scripts.specs.Batches.{IsOpenLiteral}
use Rattle.csv_scripts.specs.Literal.{literal_bytes, are_all_spellable}
use Rattle.csv_scripts.specs.Scripts.{Part, part, lead_bytes, stage_bytes, staged_bytes, opening_bytes, direct_bytes, closing_bytes}
use Rattle.csv_scripts.specs.Loads.{IsSpelled, AreConsecutive, rows_in, IsLoading, IsLoad, at_once, in_steps}
use Rattle.csv_scripts.proofs.LiteralRead.{literals_are_read}

-- what a whole batch spells
pub spelled : (first : ℕ) (rows : List (List Datum)) (text : List ℕ) → are_all_spellable rows ≡ true → text ≡ literal_bytes rows → length text ≤ 65535 → IsSpelled (part first rows)
spelled first rows text a e h bare = literals_are_read bare rows a (subst (λ (l : List ℕ). length l ≤ 65535) e h)

rows_more : (ps : List Part) (p : Part) → rows_in ps ++ p.rows ≡ rows_in (ps ++ p ∷ [])
rows_more ps p = flat_map_more (λ (q : Part). q.rows) [] ps p

rows_length : (ps : List Part) (p : Part) → length (rows_in (ps ++ p ∷ [])) ≡ length (rows_in ps) + length p.rows
rows_length ps p = ap length (sym (rows_more ps p)) ∙ length-append (rows_in ps) p.rows

follow_more : (from : ℕ) (ps : List Part) (p : Part) → AreConsecutive from ps → p.first ≡ from + length (rows_in ps) → IsSpelled p → AreConsecutive from (ps ++ p ∷ [])
follow_more from [] p h e s = let here : p.first ≡ from = omega (arith, e) in (here, s, tt)
follow_more from (q ∷ qs) p (a, b, c) e s =
    let there : p.first ≡ (from + length q.rows) + length (rows_in qs) = omega (arith, e, length-append q.rows (rows_in qs)) in
    (a, b, follow_more (from + length q.rows) qs p c there s)

staged_more : (plan : LoadPlan) (ps : List Part) (p : Part) → staged_bytes plan ps ++ (lead_bytes plan (length ps) ++ stage_bytes plan p) ≡ staged_bytes plan (ps ++ p ∷ [])
staged_more plan [] p = ap (λ l. opening_bytes plan ++ l) (sym (append-nil (stage_bytes plan p)))
staged_more plan (q ∷ qs) p =
    ap (λ b. staged_bytes plan (q ∷ qs) ++ ((if b then [] else opening_bytes plan) ++ stage_bytes plan p)) (lt-ltb 0 (length (q ∷ qs)) (omega arith))
    ∙ flat_map_more (stage_bytes plan) (opening_bytes plan) (q ∷ qs) p

-- those that wait go into the array of records, and one more waits
pub turned : (plan : LoadPlan) (from : ℕ) (text after : List ℕ) (first next count more versions : ℕ) (script bytes : List ℕ) (rows : List (List Datum)) (values : List Datum)
    → (s : IsLoading plan from text first count versions script rows) → next ≡ first + count
    → bytes ≡ lead_bytes plan versions ++ stage_bytes plan (part first s.waiting) → IsSpelled (part first s.waiting)
    → IsOpenLiteral after more (values ∷ [])
    → IsLoading plan from after next more (versions + 1) (script ++ bytes) (rows ++ values ∷ [])
turned plan from text after first next count more versions script bytes rows values s e g h o =
    let p = part first s.waiting in record {
      parts = s.parts ++ p ∷ [];
      waiting = values ∷ [];
      written = ap (λ l. l ++ bytes) s.written
          ∙ ap (λ m. staged_bytes plan s.parts ++ m) (g ∙ ap (λ n. lead_bytes plan n ++ stage_bytes plan p) s.staged)
          ∙ staged_more plan s.parts p;
      all = ap (λ l. l ++ values ∷ []) (s.all ∙ rows_more s.parts p);
      is_open = o;
      staged = ap (λ n. n + 1) s.staged ∙ sym (length-append s.parts (p ∷ []));
      follow = follow_more from s.parts p s.follow s.next h;
      next = omega (arith, e, s.next, s.is_open.1, rows_length s.parts p);
    }

no_parts : (ps : List Part) → 0 ≡ length ps → ps ≡ []
no_parts [] e = refl
no_parts (p ∷ ps) e = let no : ⊥ = omega arith in absurd no

-- one literal holds all
pub came_at_once : (plan : LoadPlan) (from : ℕ) (text : List ℕ) (first count versions : ℕ) (script bytes : List ℕ) (rows : List (List Datum))
    → (s : IsLoading plan from text first count versions script rows) → versions ≡ 0 → bytes ≡ direct_bytes plan (part first s.waiting) → IsSpelled (part first s.waiting)
    → IsLoad plan from (script ++ bytes) rows
came_at_once plan from text first count versions script bytes rows s e g h =
    let parts : s.parts ≡ [] = no_parts s.parts (sym e ∙ s.staged) in
    let here : first ≡ from = omega (arith, s.next ∙ ap (λ ps. from + length (rows_in ps)) parts) in
    at_once (part first s.waiting)
    (sym (s.all ∙ ap (λ ps. rows_in ps ++ s.waiting) parts))
    (here, h, tt)
    (ap (λ l. l ++ bytes) (s.written ∙ ap (staged_bytes plan) parts) ∙ g)

-- the last literal goes into the array of records, and then all from there
pub came_in_steps : (plan : LoadPlan) (from : ℕ) (text : List ℕ) (first count versions : ℕ) (script bytes : List ℕ) (rows : List (List Datum))
    → (s : IsLoading plan from text first count versions script rows)
    → bytes ≡ (lead_bytes plan versions ++ stage_bytes plan (part first s.waiting)) ++ closing_bytes plan (versions + 1) → IsSpelled (part first s.waiting)
    → IsLoad plan from (script ++ bytes) rows
came_in_steps plan from text first count versions script bytes rows s g h =
    let p = part first s.waiting in
    let parts = s.parts ++ p ∷ [] in
    let steps = lead_bytes plan versions ++ stage_bytes plan p in
    let some : versions + 1 ≡ length parts = ap (λ n. n + 1) s.staged ∙ sym (length-append s.parts (p ∷ [])) in
    in_steps parts
    (sym (s.all ∙ rows_more s.parts p))
    (follow_more from s.parts p s.follow s.next h)
    (ap (λ l. script ++ l) g ∙ sym (append_assoc script steps (closing_bytes plan (versions + 1)))
    ∙ ap (λ l. l ++ closing_bytes plan (versions + 1)) (ap (λ l. l ++ steps) s.written
    ∙ ap (λ n. staged_bytes plan s.parts ++ (lead_bytes plan n ++ stage_bytes plan p)) s.staged ∙ staged_more plan s.parts p)
    ∙ ap (λ n. staged_bytes plan parts ++ closing_bytes plan n) some)
