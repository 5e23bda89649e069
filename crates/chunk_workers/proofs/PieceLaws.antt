-- What becomes of pieces, one after the other and part by part.
use denote.Param.Members.{Shared}
use Rattle.std.specs.Fn.{FnReturns}
use Rattle.std.proofs.Common.{◌≡◌, ℕ, zero, suc, ◌<◌, List, [], ◌∷◌, ◌++◌, take, drop, map, get_or, Result, Ok, Err, append_assoc, length, refl, sym, ◌∙◌, ap, subst, arith}
use Rattle.std.specs.Prelude.{IfOk, MatchResult}
use Rattle.cell_values.specs.declared.memory.Memory.{Memory}
use Rattle.std.specs.Fork.{GivesJobs}
use Rattle.std.specs.List.{AllByRecursion, AllZip, flat_map}
use Rattle.std.proofs.lemmas.List.{append-nil, flat_map_more, take-append-drop}

pub ended : {P M : Type 0} (R : P → M → Type 0) (pieces left : List P) (made : List M) → left ≡ [] → ((rest : List M) → AllZip R left rest → AllZip R pieces (made ++ rest)) → AllZip R pieces made
ended {P} {M} R pieces left made e f = subst (AllZip R pieces) (append-nil made) (f [] (subst (λ (z : List P). AllZip R z []) (sym e) tt))

zip_parts : {P M : Type 0} (R : P → M → Type 0) (a b : List P) (x y : List M) → AllZip R a x → AllZip R b y → AllZip R (a ++ b) (x ++ y)
zip_parts R [] b [] y h k = k
zip_parts R [] b (m ∷ x) y h k = absurd h
zip_parts R (p ∷ a) b [] y h k = absurd h
zip_parts R (p ∷ a) b (m ∷ x) y h k = (h.0, zip_parts R a b x y h.1 k)

-- ---- runs of pieces

pub one_run_added : {J P : Type 0} (before after : List J) (run : J) (of : J → List P) → after ≡ before ++ run ∷ [] → flat_map of after ≡ flat_map of before ++ of run
one_run_added before after run of pushed = ap (flat_map of) pushed ∙ sym (flat_map_more of [] before run)

pub runs_added : {J P : Type 0} (before between after : List J) (of : J → List P) (n : ℕ) (pieces low high : List P) → low ≡ take n pieces → high ≡ drop n pieces
    → flat_map of between ≡ flat_map of before ++ low → flat_map of after ≡ flat_map of between ++ high → flat_map of after ≡ flat_map of before ++ pieces
runs_added {J} {P} before between after of n pieces low high l h first second =
    let both : low ++ high ≡ pieces = ap (λ (z : List P). z ++ high) l ∙ ap (λ (z : List P). take n pieces ++ z) h ∙ take-append-drop n pieces in
    second ∙ ap (λ (z : List P). z ++ high) first ∙ append_assoc (flat_map of before) low high ∙ ap (λ (z : List P). flat_map of before ++ z) both

pub runs_cut : {J P : Type 0} (before after runs : List J) (of : J → List P) (pieces : List P) → before ≡ [] → flat_map of after ≡ flat_map of before ++ pieces → runs ≡ after
    → flat_map of runs ≡ pieces
runs_cut {J} before after runs of pieces none added is = ap (flat_map of) is ∙ added ∙ ap (λ (z : List J). flat_map of z ++ pieces) none

both_accepted : {P : Type 0} (A : P → Type 0) (xs ys : List P) → AllByRecursion A (xs ++ ys) → AllByRecursion A xs × AllByRecursion A ys
both_accepted A [] ys h = (tt, h)
both_accepted A (x ∷ xs) ys h = let both = both_accepted A xs ys h.1 in ((h.0, both.0), both.1)

each_accepted : {J P : Type 0} (runs : List J) (of : J → List P) (A : P → Type 0) → AllByRecursion A (flat_map of runs) → AllByRecursion (λ (run : J). AllByRecursion A (of run)) runs
each_accepted [] of A h = tt
each_accepted (run ∷ runs) of A h = let both = both_accepted A (of run) (flat_map of runs) h in (both.0, each_accepted runs of A both.1)

pub runs_accepted : {J P : Type 0} (runs : List J) (of : J → List P) (A : P → Type 0) (pieces : List P) → flat_map of runs ≡ pieces → AllByRecursion A pieces
    → AllByRecursion (λ (run : J). AllByRecursion A (of run)) runs
runs_accepted runs of A pieces is h = each_accepted runs of A (subst (AllByRecursion A) (sym is) h)

-- ---- calls with runs

pub job_accepted : {J : Type 0} (A : J → Type 0) (jobs : List J) (i : ℕ) (job : J) → AllByRecursion A jobs → i < length jobs → job ≡ get_or jobs i job → A job
job_accepted A [] i job all lt is = absurd (omega (arith, lt))
job_accepted A (one ∷ jobs) zero job all lt is = subst A (sym is) all.0
job_accepted A (one ∷ jobs) (suc i) job all lt is = job_accepted A jobs i job all.1 (omega (arith, lt)) is

zip_of_places : {J X : Type 0} (Q : J → X → Type 0) (jobs : List J) (given : List X) → length given ≡ length jobs
    → ((i : ℕ) (d : X) → i < length jobs → (job : J) × ((e : J) → get_or jobs i e ≡ job) × Q job (get_or given i d)) → AllZip Q jobs given
zip_of_places Q [] [] long each = tt
zip_of_places Q [] (x ∷ given) long each = absurd (omega (arith, long))
zip_of_places Q (job ∷ jobs) [] long each = absurd (omega (arith, long))
zip_of_places {J} Q (job ∷ jobs) (x ∷ given) long each =
    let here = each zero x (omega arith) in (
      subst (λ (z : J). Q z x) (sym (here.1 job)) here.2,
      zip_of_places Q jobs given (omega (arith, long)) (λ i d lt. each (suc i) d (omega (arith, lt))),
    )

pub zip_of_jobs : {F J X V E : Type 0} (g : Shared F (J × Unit {0}) X) (f : F) (jobs : List J) (answer : Result V E) (items : V → List X) (len : V → ℕ) (n : ℕ) (Q : J → X → Type 0)
    → ((v : V) → len v ≡ length (items v)) → n ≡ length jobs → ((job : J) (x : X) → FnReturns g f (job, tt) x → Q job x) → IfOk answer (λ v. len v ≡ n)
    → IfOk answer (λ v. GivesJobs g f jobs (items v)) → IfOk answer (λ v. AllZip Q jobs (items v))
zip_of_jobs g f jobs (Err e) items len n Q fits whole kept long each = tt
zip_of_jobs g f jobs (Ok v) items len n Q fits whole kept long each =
    zip_of_places Q jobs (items v) (sym (fits v) ∙ long ∙ whole) (λ i d lt. let one = (each i d lt).1 in (one.job, one.job_is, kept one.job (get_or (items v) i d) one.call))

-- ---- parts joined

-- the parts are lists, and what is made is these one behind the other
abbrev pub IsJoined : {M : Type 0} → List (Result (List M) Memory) → List M → Type 0
IsJoined {M} parts made = (lists : List (List M)) × (parts ≡ map (λ (list : List M). Ok list) lists) × (made ≡ flat_map (λ (list : List M). list) lists)

-- what the items left make goes behind what is made so far
abbrev pub IsBegun : {M : Type 0} → List (Result (List M) Memory) → List (Result (List M) Memory) → Result (List M) Memory → Type 0
IsBegun {M} parts items all = IfOk all (λ made. (rest : List M) → IsJoined items rest → IsJoined parts (made ++ rest))

pub none_joined : {M : Type 0} (parts items : List (Result (List M) Memory)) (made : List M) → items ≡ parts → made ≡ [] → IsBegun parts items (Ok made)
none_joined {M} parts items made is none = λ rest joined.
    subst (λ (z : List M). IsJoined parts (z ++ rest)) (sym none) (subst (λ (z : List (Result (List M) Memory)). IsJoined z rest) is joined)

pub one_joined : {M : Type 0} (parts items left : List (Result (List M) Memory)) (all part more : Result (List M) Memory) → items ≡ part ∷ left
    → IfOk more (λ made. MatchResult all (λ x. MatchResult part (λ y. made ≡ x ++ y) (λ _. ⊥)) (λ _. ⊥)) → IsBegun parts items all → IsBegun parts left more
one_joined parts items left all part (Err memory) is both begun = tt
one_joined parts items left (Err memory) part (Ok made) is both begun = absurd both
one_joined parts items left (Ok x) (Err memory) (Ok made) is both begun = absurd both
one_joined {M} parts items left (Ok x) (Ok y) (Ok made) is both begun = λ rest joined.
    subst (IsJoined parts) (sym (ap (λ (z : List M). z ++ rest) both ∙ append_assoc x y rest))
    (begun (y ++ rest) (subst (λ (z : List (Result (List M) Memory)). IsJoined z (y ++ rest)) (sym is)
    (y ∷ joined.0, ap (λ (z : List (Result (List M) Memory)). Ok y ∷ z) joined.1, ap (λ (z : List M). y ++ z) joined.2)))

pub all_were_joined : {M : Type 0} (parts left : List (Result (List M) Memory)) (all : Result (List M) Memory) → left ≡ [] → IsBegun parts left all → IfOk all (IsJoined parts)
all_were_joined parts left (Err memory) none begun = tt
all_were_joined {M} parts left (Ok made) none begun =
    subst (IsJoined parts) (append-nil made) (begun [] (subst (λ (z : List (Result (List M) Memory)). IsJoined z []) (sym none) ([], refl, refl)))

-- each piece of a run was worked on, where the run's part is a list
abbrev pub RunGives : {J P M : Type 0} → (J → List P) → (P → M → Type 0) → J → Result (List M) Memory → Type 0
RunGives of R run part = IfOk part (AllZip R (of run))

lists_made : {J P M : Type 0} (of : J → List P) (R : P → M → Type 0) (runs : List J) (lists : List (List M)) → AllZip (RunGives of R) runs (map (λ (list : List M). Ok list) lists)
    → AllZip R (flat_map of runs) (flat_map (λ (list : List M). list) lists)
lists_made of R [] [] h = tt
lists_made of R [] (list ∷ lists) h = absurd h
lists_made of R (run ∷ runs) [] h = absurd h
lists_made {J} {P} {M} of R (run ∷ runs) (list ∷ lists) h = zip_parts R (of run) (flat_map of runs) list (flat_map (λ (one : List M). one) lists) h.0 (lists_made of R runs lists h.1)

pub all_made : {J P M : Type 0} (runs : List J) (of : J → List P) (R : P → M → Type 0) (pieces : List P) (parts : List (Result (List M) Memory)) (answer : Result (List M) Memory)
    → flat_map of runs ≡ pieces → AllZip (RunGives of R) runs parts → IfOk answer (IsJoined parts) → IfOk answer (AllZip R pieces)
all_made runs of R pieces parts (Err memory) is each joined = tt
all_made {J} {P} {M} runs of R pieces parts (Ok made) is each joined =
    subst (λ (z : List P). AllZip R z made) is (subst (AllZip R (flat_map of runs)) (sym joined.2)
    (lists_made of R runs joined.0 (subst (AllZip (RunGives of R) runs) joined.1 each)))

-- ---- what is known of the results

pub results_known : {P M : Type 0} (gives : P → M → Type 0) (made : P → M) → ((piece : P) (result : M) → gives piece result → result ≡ made piece)
    → (pieces : List P) (results : List M) → AllZip gives pieces results → results ≡ map made pieces
results_known gives made one [] [] h = refl
results_known gives made one [] (m ∷ results) h = absurd h
results_known gives made one (p ∷ pieces) [] h = absurd h
results_known gives made one (p ∷ pieces) (m ∷ results) h = (λ i. one p m h.0 i ∷ results_known gives made one pieces results h.1 i)

pub results_known_if : {P M : Type 0} (gives : P → M → Type 0) (pieces : List P) (answer : Result (List M) Memory) (made : P → M)
    → ((piece : P) (result : M) → gives piece result → result ≡ made piece) → IfOk answer (AllZip gives pieces) → IfOk answer (λ results. results ≡ map made pieces)
results_known_if gives pieces (Err memory) made one h = tt
results_known_if gives pieces (Ok results) made one h = results_known gives made one pieces results h

-- ---- one piece after the other

pub nothing_left : {A : Type 0} (xs : List A) → length xs ≡ 0 → xs ≡ []
nothing_left [] none = refl
nothing_left (x ∷ xs) none = absurd (omega (arith, none))

pub first_accepted : {P : Type 0} (A : P → Type 0) (p : P) (items left : List P) → items ≡ p ∷ left → AllByRecursion A items → A p
first_accepted A p items left is all = (subst (AllByRecursion A) is all).0

pub one_made : {P M : Type 0} (A : P → Type 0) (R : P → M → Type 0) (pieces items left : List P) (p : P) (m : M) (made more : List M) → items ≡ p ∷ left
    → R p m → more ≡ made ++ m ∷ [] → AllByRecursion A items × ((rest : List M) → AllZip R items rest → AllZip R pieces (made ++ rest))
    → AllByRecursion A left × ((rest : List M) → AllZip R left rest → AllZip R pieces (more ++ rest))
one_made {P} {M} A R pieces items left p m made more is gives pushed so_far = (
  (subst (AllByRecursion A) is so_far.0).1,
  λ rest zip. subst (AllZip R pieces) (sym (ap (λ (l : List M). l ++ rest) pushed ∙ append_assoc made (m ∷ []) rest))
      (so_far.1 (m ∷ rest) (subst (λ (l : List P). AllZip R l (m ∷ rest)) (sym is) (gives, zip))),
)

pub none_made : {P M : Type 0} (A : P → Type 0) (R : P → M → Type 0) (pieces items : List P) (made : List M) → items ≡ pieces → made ≡ []
    → AllByRecursion A pieces → AllByRecursion A items × ((rest : List M) → AllZip R items rest → AllZip R pieces (made ++ rest))
none_made {P} {M} A R pieces items made is empty all = (
  subst (AllByRecursion A) (sym is) all,
  λ rest zip. subst (λ (l : List M). AllZip R pieces (l ++ rest)) (sym empty) (subst (λ (l : List P). AllZip R l rest) is zip),
)
