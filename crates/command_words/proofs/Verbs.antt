-- The first word decides which form the words may have.
use Rattle.std.proofs.Common.{◌≡◌, ℕ, true, false, cond, Result, Ok, Err, List, [], ◌∷◌, ◌++◌, refl, sym, ap, subst, ◌∙◌, arith, true≢false}
use Rattle.std.specs.Prelude.{codes, flat_map}
use Rattle.std.specs.List.{list_any}
use Rattle.std.specs.Str.{bytes_eq}
use Rattle.std.proofs.lemmas.Bool.{cond_both, or_parts, or_from}
use Rattle.command_words.specs.declared.words.forms.Form.{Form}
use Rattle.command_words.specs.declared.words.forms.Form.TheVariants.{Try, Init, Run, Generate}
use Rattle.command_words.specs.declared.words.settings.RunOption.{RunOption}
use Rattle.command_words.specs.declared.words.settings.RunOption.TheVariants.{Pages, History, Workers, Format, Trace}
use Rattle.command_words.specs.Forms.{Word, setting_words, is_dashed, IsForm, IsRun}
use Rattle.command_words.specs.WordsWorked.{plain}
use Rattle.command_words.specs.Inner.Reading.{no_settings, is_given, read_generate, read_run, read_init, read_try, read_words, read_settings}
use Rattle.command_words.proofs.Names.{same_bytes}
use Rattle.command_words.proofs.Places.{Judged, judged_same, judged_step, missing, refused}
use Rattle.command_words.proofs.Heads.{same_head, same_tail, unlike}
use Rattle.command_words.proofs.Options.{IsTail, count}
use Rattle.command_words.proofs.Generating.{generate_judged}
use Rattle.command_words.proofs.VerbWords.{no_words, verb_is}
use Rattle.command_words.proofs.ReadingLemmas.{settings_judged}

least_init : (device : Word) → is_dashed device ≡ false → IsForm (codes "init" ∷ device ∷ []) (Init 1)
least_init device named = (refl, record { device = device; spelled = refl; named = named })

-- try

only_try : (form : Form) → IsForm (codes "try" ∷ []) form → form ≡ Try
only_try Try is = refl
only_try (Init device) is = absurd (unlike (codes "try") (codes "init") refl (verb_is (codes "try") [] (Init device) is))
only_try (Run device workers pages history printing scripts) is = absurd (unlike (codes "try") (codes "run") refl (verb_is (codes "try") [] (Run device workers pages history printing scripts) is))
only_try (Generate number workers) is = absurd (unlike (codes "try") (codes "generate") refl (verb_is (codes "try") [] (Generate number workers) is))

try_alone : (word : Word) (words : List Word) (form : Form) → IsForm (codes "try" ∷ word ∷ words) form → ⊥
try_alone word words Try is = let none : word ∷ words ≡ [] = same_tail (codes "try") (codes "try") (word ∷ words) [] is in cc
try_alone word words (Init device) is = unlike (codes "try") (codes "init") refl (verb_is (codes "try") (word ∷ words) (Init device) is)
try_alone word words (Run device workers pages history printing scripts) is =
    unlike (codes "try") (codes "run") refl (verb_is (codes "try") (word ∷ words) (Run device workers pages history printing scripts) is)
try_alone word words (Generate number workers) is = unlike (codes "try") (codes "generate") refl (verb_is (codes "try") (word ∷ words) (Generate number workers) is)

try_judged : (words : List Word) → Judged 1 (λ rest. IsForm (codes "try" ∷ rest)) words (read_try words)
try_judged [] = (refl, only_try)
try_judged (word ∷ words) = refused 1 (λ rest. IsForm (codes "try" ∷ rest)) word words (try_alone word) [] Try refl

-- init

init_tail : (words : List Word) (form : Form) → IsForm (codes "init" ∷ words) form → (device : Word) × (words ≡ device ∷ []) × (is_dashed device ≡ false) × (form ≡ Init 1)
init_tail words Try is = absurd (unlike (codes "init") (codes "try") refl (verb_is (codes "init") words Try is))
init_tail words (Init device) is = (is.1.device, same_tail (codes "init") (codes "init") words (is.1.device ∷ []) is.1.spelled, is.1.named, ap Init is.0)
init_tail words (Run device workers pages history printing scripts) is =
    absurd (unlike (codes "init") (codes "run") refl (verb_is (codes "init") words (Run device workers pages history printing scripts) is))
init_tail words (Generate number workers) is = absurd (unlike (codes "init") (codes "generate") refl (verb_is (codes "init") words (Generate number workers) is))

init_needs : (form : Form) → IsForm (codes "init" ∷ []) form → ⊥
init_needs form is = by (init_tail [] form is) where
  by : (device : Word) × ([] ≡ device ∷ []) × (is_dashed device ≡ false) × (form ≡ Init 1) → ⊥
  by (device, none, named, made) = cc

init_dashed : (device : Word) → is_dashed device ≡ true → (words : List Word) (form : Form) → IsForm (codes "init" ∷ device ∷ words) form → ⊥
init_dashed device dashed words form is = by (init_tail (device ∷ words) form is) where
  by : (name : Word) × (device ∷ words ≡ name ∷ []) × (is_dashed name ≡ false) × (form ≡ Init 1) → ⊥
  by (name, spelled, named, made) = true≢false (sym dashed ∙ ap is_dashed (same_head device name words [] spelled) ∙ named)

init_whole : (device word : Word) (words : List Word) (form : Form) → IsForm (codes "init" ∷ device ∷ word ∷ words) form → ⊥
init_whole device word words form is = by (init_tail (device ∷ word ∷ words) form is) where
  by : (name : Word) × (device ∷ word ∷ words ≡ name ∷ []) × (is_dashed name ≡ false) × (form ≡ Init 1) → ⊥
  by (name, spelled, named, made) = let none : word ∷ words ≡ [] = same_tail device name (word ∷ words) [] spelled in cc

init_judged : (words : List Word) → Judged 1 (λ rest. IsForm (codes "init" ∷ rest)) words (read_init words)
init_judged [] = missing 1 (λ rest. IsForm (codes "init" ∷ rest)) init_needs (codes "a" ∷ []) (Init 1) (least_init (codes "a") refl)
init_judged (device ∷ []) =
    cond_both (is_dashed device) (Err 1) (Ok (Init 1)) (λ (r : Result Form ℕ). Judged 1 (λ rest. IsForm (codes "init" ∷ rest)) (device ∷ []) r)
    (λ dashed. refused 1 (λ rest. IsForm (codes "init" ∷ rest)) device [] (init_dashed device dashed) (codes "a" ∷ []) (Init 1) (least_init (codes "a") refl))
    (λ named. (least_init device named, λ other is. (init_tail (device ∷ []) other is).3))
init_judged (device ∷ word ∷ words) =
    cond_both (is_dashed device) (Err 1) (Err 2) (λ (r : Result Form ℕ). Judged 1 (λ rest. IsForm (codes "init" ∷ rest)) (device ∷ word ∷ words) r)
    (λ dashed. refused 1 (λ rest. IsForm (codes "init" ∷ rest)) device (word ∷ words) (init_dashed device dashed) (codes "a" ∷ []) (Init 1) (least_init (codes "a") refl))
    (λ named. judged_step 1 (λ rest. IsForm (codes "init" ∷ rest)) device (word ∷ words) (Err 2)
    (refused 2 (λ rest. IsForm (codes "init" ∷ device ∷ rest)) word words (init_whole device word) [] (Init 1) (least_init device named)))

-- run

none_given : (option : RunOption) → count (is_given no_settings option) ≡ 0
none_given Pages = refl
none_given History = refl
none_given Workers = refl
none_given Format = refl
none_given Trace = refl

record RunTail (words : List Word) (form : Form) : Type 0 where
  name : Word
  rest : List Word
  spelled : words ≡ name ∷ rest
  named : is_dashed name ≡ false
  behind : IsTail name no_settings rest form

run_tail : (words : List Word) (form : Form) → IsForm (codes "run" ∷ words) form → RunTail words form
run_tail words Try is = absurd (unlike (codes "run") (codes "try") refl (verb_is (codes "run") words Try is))
run_tail words (Init device) is = absurd (unlike (codes "run") (codes "init") refl (verb_is (codes "run") words (Init device) is))
run_tail words (Generate number workers) is = absurd (unlike (codes "run") (codes "generate") refl (verb_is (codes "run") words (Generate number workers) is))
run_tail words (Run device workers pages history printing scripts) is =
    let run : IsRun (codes "run" ∷ words) workers pages history printing scripts = is.1 in
    let rest : List Word = flat_map setting_words run.settings ++ run.scripts in
    let (plain, others) = or_parts (is_dashed run.device) (list_any is_dashed run.scripts) run.named in
    record {
      name = run.device;
      rest = rest;
      spelled = same_tail (codes "run") (codes "run") words (run.device ∷ rest) run.spelled;
      named = plain;
      behind = record {
        more = run.settings;
        scripts = run.scripts;
        spelled = refl;
        right = run.right;
        once = λ option. let none : count (is_given no_settings option) ≡ 0 = none_given option in omega (arith, run.once option);
        some = run.some;
        good = record { most = run.most; named = others; different = run.different };
        is = λ i. Run (is.0 i) (run.workers_given i) (run.pages_given i) (run.history_given i) (record { csv = run.csv_given i; trace = run.trace_given i }) (run.place i);
      };
    }

tail_run : (device : Word) → is_dashed device ≡ false → (words : List Word) (form : Form) → IsTail device no_settings words form → IsForm (codes "run" ∷ device ∷ words) form
tail_run device named words form tail = subst (IsForm (codes "run" ∷ device ∷ words)) (sym tail.is) (
  refl,
  record {
    device = device;
    settings = tail.more;
    scripts = tail.scripts;
    spelled = ap (λ (l : List Word). codes "run" ∷ device ∷ l) tail.spelled;
    right = tail.right;
    once = λ option. let none : count (is_given no_settings option) ≡ 0 = none_given option in omega (arith, tail.once option);
    some = tail.some;
    most = tail.good.most;
    named = or_from (is_dashed device) (list_any is_dashed tail.scripts) named tail.good.named;
    different = tail.good.different;
    workers_given = refl;
    pages_given = refl;
    history_given = refl;
    csv_given = refl;
    trace_given = refl;
    place = refl;
  },
)

run_needs : (form : Form) → IsForm (codes "run" ∷ []) form → ⊥
run_needs form is = let run : RunTail [] form = run_tail [] form is in let none : [] ≡ run.name ∷ run.rest = run.spelled in cc

run_dashed : (device : Word) → is_dashed device ≡ true → (words : List Word) (form : Form) → IsForm (codes "run" ∷ device ∷ words) form → ⊥
run_dashed device dashed words form is =
    let run : RunTail (device ∷ words) form = run_tail (device ∷ words) form is in
    true≢false (sym dashed ∙ ap is_dashed (same_head device run.name words run.rest run.spelled) ∙ run.named)

past_device : (device : Word) (words : List Word) (form : Form) → IsForm (codes "run" ∷ device ∷ words) form → IsTail device no_settings words form
past_device device words form is =
    let run : RunTail (device ∷ words) form = run_tail (device ∷ words) form is in
    subst (λ (d : Word). IsTail d no_settings words form) (sym (same_head device run.name words run.rest run.spelled))
    (subst (λ (l : List Word). IsTail run.name no_settings l form) (sym (same_tail device run.name words run.rest run.spelled)) run.behind)

least_run : IsForm (codes "run" ∷ codes "a" ∷ codes "-" ∷ []) (Run 1 4 65536 1048576 plain 2)
least_run = (
  refl,
  record {
    device = codes "a";
    settings = [];
    scripts = codes "-" ∷ [];
    spelled = refl;
    right = refl;
    once = λ option. omega arith;
    some = omega arith;
    most = omega arith;
    named = refl;
    different = refl;
    workers_given = refl;
    pages_given = refl;
    history_given = refl;
    csv_given = refl;
    trace_given = refl;
    place = refl;
  },
)

run_judged : (words : List Word) → Judged 1 (λ rest. IsForm (codes "run" ∷ rest)) words (read_run words)
run_judged [] = missing 1 (λ rest. IsForm (codes "run" ∷ rest)) run_needs (codes "a" ∷ codes "-" ∷ []) (Run 1 4 65536 1048576 plain 2) least_run
run_judged (device ∷ words) =
    cond_both (is_dashed device) (Err 1) (read_settings device words no_settings) (λ (r : Result Form ℕ). Judged 1 (λ rest. IsForm (codes "run" ∷ rest)) (device ∷ words) r)
    (λ dashed. refused 1 (λ rest. IsForm (codes "run" ∷ rest)) device words (run_dashed device dashed) (codes "a" ∷ codes "-" ∷ []) (Run 1 4 65536 1048576 plain 2) least_run)
    (λ named. judged_step 1 (λ rest. IsForm (codes "run" ∷ rest)) device words (read_settings device words no_settings)
    (judged_same (IsTail device no_settings) (λ rest. IsForm (codes "run" ∷ device ∷ rest)) (tail_run device named) (past_device device) 2 words (read_settings device words no_settings)
    (settings_judged device words no_settings)))

-- all

no_verb : (verb : Word) → bytes_eq verb (codes "try") ≡ false → bytes_eq verb (codes "init") ≡ false → bytes_eq verb (codes "run") ≡ false
    → bytes_eq verb (codes "generate") ≡ false → (words : List Word) (form : Form) → IsForm (verb ∷ words) form → ⊥
no_verb verb a b c d words Try is = unlike verb (codes "try") a (verb_is verb words Try is)
no_verb verb a b c d words (Init device) is = unlike verb (codes "init") b (verb_is verb words (Init device) is)
no_verb verb a b c d words (Run device workers pages history printing scripts) is = unlike verb (codes "run") c (verb_is verb words (Run device workers pages history printing scripts) is)
no_verb verb a b c d words (Generate number workers) is = unlike verb (codes "generate") d (verb_is verb words (Generate number workers) is)

at_verb : (verb word : Word) → bytes_eq verb word ≡ true → (words : List Word) (result : Result Form ℕ)
    → Judged 1 (λ rest. IsForm (word ∷ rest)) words result → Judged 0 IsForm (verb ∷ words) result
at_verb verb word same words result judged =
    subst (λ (v : Word). Judged 0 IsForm (v ∷ words) result) (sym (same_bytes verb word same)) (judged_step 0 IsForm word words result judged)

pub words_judged : (words : List Word) → Judged 0 IsForm words (read_words words)
words_judged [] = missing 0 IsForm no_words (codes "try" ∷ []) Try refl
words_judged (verb ∷ words) =
    let P : Result Form ℕ → Type 0 = λ r. Judged 0 IsForm (verb ∷ words) r in
    let last : Result Form ℕ = cond (bytes_eq verb (codes "generate")) (read_generate words) (Err 0) in
    cond_both (bytes_eq verb (codes "try")) (read_try words) (cond (bytes_eq verb (codes "init")) (read_init words) (cond (bytes_eq verb (codes "run")) (read_run words) last)) P
    (λ same. at_verb verb (codes "try") same words (read_try words) (try_judged words))
    (λ a. cond_both (bytes_eq verb (codes "init")) (read_init words) (cond (bytes_eq verb (codes "run")) (read_run words) last) P
    (λ same. at_verb verb (codes "init") same words (read_init words) (init_judged words))
    (λ b. cond_both (bytes_eq verb (codes "run")) (read_run words) last P
    (λ same. at_verb verb (codes "run") same words (read_run words) (run_judged words))
    (λ c. cond_both (bytes_eq verb (codes "generate")) (read_generate words) (Err 0) P
    (λ same. at_verb verb (codes "generate") same words (read_generate words) (generate_judged words))
    (λ d. refused 0 IsForm verb words (no_verb verb a b c d) (codes "try" ∷ []) Try refl))))
