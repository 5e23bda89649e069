-- What is read of words is their form, or the place where they leave the forms.
use Rattle.std.proofs.Common.{◌≡◌, ℕ, ◌+◌, ◌≤◌, Bool, true, false, cond, Option, None, Some, Result, Err, List, [], ◌∷◌, ◌++◌, length, refl, sym, ap, subst, ◌∙◌, arith, true≢false, lit≤}
use Rattle.std.specs.Prelude.{codes, flat_map}
use Rattle.std.specs.Str.{bytes_eq}
use Rattle.std.specs.Str.Parse.{digits_value}
use Rattle.std.proofs.lemmas.Bool.{cond_both}
use Rattle.command_words.specs.declared.words.forms.Form.{Form}
use Rattle.command_words.specs.declared.words.settings.RunOption.{RunOption}
use Rattle.command_words.specs.declared.words.settings.RunOption.TheVariants.{Pages, History, Workers, Format, Trace}
use Rattle.command_words.specs.declared.words.settings.Settings.{Settings}
use Rattle.command_words.specs.Forms.{Word, Setting, is_flag, said_words, setting_words, is_number_within, may_say, option_word}
use Rattle.command_words.specs.Inner.Reading.{number_within, with_pages, with_history, with_workers, with_said, with_trace, place_of, next_option, run_of, by_said, by_option, read_scripts, read_settings}
use Rattle.command_words.proofs.Names.{no_scripts, fresh, good_fresh}
use Rattle.command_words.proofs.Places.{Judged, judged_first, judged_same, judged_step, missing, refused}
use Rattle.command_words.proofs.Heads.{same_head, same_tail}
use Rattle.command_words.proofs.ScriptLemmas.{AreScripts, scripts_judged}
use Rattle.command_words.proofs.Options.{IsTail, Names, option_names, after, place_flag, place_step, two_words, Follows, tail_first, first_tail, tail_scripts, scripts_tail}

abbrev pub NumberTells : ℕ → ℕ → Word → Option ℕ → Type 0
NumberTells least most word None = is_number_within least most word ≡ false
NumberTells least most word (Some value) = (is_number_within least most word ≡ true) × (value ≡ digits_value 10 word)

pub number_tells : (least most : ℕ) (word : Word) → NumberTells least most word (number_within least most word)
number_tells least most word = by (is_number_within least most word) refl where
  by : (b : Bool) → is_number_within least most word ≡ b → NumberTells least most word (cond b (Some (digits_value 10 word)) None)
  by true e = (e, refl)
  by false e = e

abbrev SaidTells : Settings → RunOption → Word → Option Settings → Type 0
SaidTells settings option said None = may_say option said ≡ false
SaidTells settings option said (Some next) = (may_say option said ≡ true) × (next ≡ after settings option said)

said_tells : (settings : Settings) (option : RunOption) (said : Word) → is_flag option ≡ false → SaidTells settings option said (with_said settings option said)
said_tells settings Pages said says = by (number_within 16 1048576 said) (number_tells 16 1048576 said) where
  by : (n : Option ℕ) → NumberTells 16 1048576 said n → SaidTells settings Pages said (with_pages settings n)
  by None wrong = wrong
  by (Some value) (fits, is) = (fits, λ i. record settings { pages = Some (is i) })
said_tells settings History said says = by (number_within 16 1048576 said) (number_tells 16 1048576 said) where
  by : (n : Option ℕ) → NumberTells 16 1048576 said n → SaidTells settings History said (with_history settings n)
  by None wrong = wrong
  by (Some value) (fits, is) = (fits, λ i. record settings { history = Some (is i) })
said_tells settings Workers said says = by (number_within 1 64 said) (number_tells 1 64 said) where
  by : (n : Option ℕ) → NumberTells 1 64 said n → SaidTells settings Workers said (with_workers settings n)
  by None wrong = wrong
  by (Some value) (fits, is) = (fits, λ i. record settings { workers = Some (is i) })
said_tells settings Format said says = by (bytes_eq said (codes "csv+")) refl where
  by : (b : Bool) → bytes_eq said (codes "csv+") ≡ b → SaidTells settings Format said (cond b (Some (record settings { csv = true })) None)
  by true e = (e, refl)
  by false e = e
said_tells settings Trace said says = absurd (true≢false says)

-- what may be said of each option
right_word : RunOption → Word
right_word Pages = codes "16"
right_word History = codes "16"
right_word Workers = codes "16"
right_word Format = codes "csv+"
right_word Trace = []

is_right_word : (option : RunOption) → may_say option (right_word option) ≡ true
unfolding right_word
is_right_word Pages = refl
is_right_word History = refl
is_right_word Workers = refl
is_right_word Format = refl
is_right_word Trace = refl

module _ (device : Word) where
  module _ (settings : Settings) where
    fresh_tail : IsTail device settings (fresh device ∷ []) (run_of settings)
    fresh_tail = scripts_tail device settings (fresh device ∷ []) (run_of settings) (record { some = lit≤ tt; good = good_fresh device; is = refl })

    no_tail : (form : Form) → IsTail device settings [] form → ⊥
    no_tail form tail = by tail.more tail.spelled where
      by : (more : List Setting) → [] ≡ flat_map setting_words more ++ tail.scripts → ⊥
      by [] spelled = let none : 1 ≤ 0 = subst (λ (l : List Word). 1 ≤ length l) (sym spelled) tail.some in let no : ⊥ = omega arith in no
      by (s ∷ more) spelled = let no : [] ≡ option_word s.option ∷ ((said_words s.option s.said ++ flat_map setting_words more) ++ tail.scripts) = spelled in cc

    scripts_read : (word : Word) (words : List Word) → Names settings word None → Judged (place_of settings) (IsTail device settings) (word ∷ words) (read_scripts device settings (word ∷ words))
    scripts_read word words unnamed =
        let result : Result Form ℕ = read_scripts device settings (word ∷ words) in
        let base : place_of settings + 0 ≡ place_of settings = omega arith in
        let one : 1 ≤ 0 + length (word ∷ words) = omega arith in
        judged_first (AreScripts device settings []) (IsTail device settings) (scripts_tail device settings) word (tail_scripts device settings word unnamed) (place_of settings) words result
        (subst (λ (n : ℕ). Judged n (AreScripts device settings []) (word ∷ words) result) base (scripts_judged device settings (word ∷ words) [] (no_scripts device) one))

    -- an option with what is said of it
    first_two : (word : Word) (option : RunOption) → Names settings word (Some option) → is_flag option ≡ false → (said : Word) → may_say option said ≡ true
        → (rest : List Word) (form : Form) → IsTail device (after settings option said) rest form → IsTail device settings (word ∷ said ∷ rest) form
    first_two word option names says said fits rest form tail =
        subst (λ (l : List Word). IsTail device settings (word ∷ (l ++ rest)) form) (two_words option said says) (first_tail device settings word option names.0 names.1 said fits rest form tail)

    second : (option : RunOption) → is_flag option ≡ false → (words : List Word) (form : Form) (follows : Follows device settings option words form) → words ≡ follows.said ∷ follows.rest
    second option says words form follows = follows.spelled ∙ ap (λ (l : List Word). l ++ follows.rest) (two_words option follows.said says)

    -- with what may be said of it and a script the option goes on
    least_tail : (word : Word) (option : RunOption) → Names settings word (Some option) → is_flag option ≡ false
        → IsTail device settings (word ∷ right_word option ∷ fresh device ∷ []) (run_of (after settings option (right_word option)))
    least_tail word option names says =
        let next : Settings = after settings option (right_word option) in
        first_two word option names says (right_word option) (is_right_word option) (fresh device ∷ []) (run_of next)
        (scripts_tail device next (fresh device ∷ []) (run_of next) (record { some = lit≤ tt; good = good_fresh device; is = refl }))

    word_missing : (word : Word) (option : RunOption) → Names settings word (Some option) → is_flag option ≡ false
        → Judged (place_of settings) (IsTail device settings) (word ∷ []) (Err (place_of settings + 1))
    word_missing word option names says =
        judged_step (place_of settings) (IsTail device settings) word [] (Err (place_of settings + 1))
        (missing (place_of settings + 1) (λ rest. IsTail device settings (word ∷ rest))
        (λ form tail. nothing form (tail_first device settings word option names.0 names.1 [] form tail))
        (right_word option ∷ fresh device ∷ []) (run_of (after settings option (right_word option))) (least_tail word option names says))
      where
        nothing : (form : Form) → Follows device settings option [] form → ⊥
        nothing form follows = let no : [] ≡ follows.said ∷ follows.rest = second option says [] form follows in cc

    word_refused : (word : Word) (option : RunOption) → Names settings word (Some option) → is_flag option ≡ false → (said : Word) → may_say option said ≡ false → (words : List Word)
        → Judged (place_of settings) (IsTail device settings) (word ∷ said ∷ words) (Err (place_of settings + 1))
    word_refused word option names says said wrong words =
        judged_step (place_of settings) (IsTail device settings) word (said ∷ words) (Err (place_of settings + 1))
        (refused (place_of settings + 1) (λ rest. IsTail device settings (word ∷ rest)) said words
        (λ more form tail. unfit more form (tail_first device settings word option names.0 names.1 (said ∷ more) form tail))
        (right_word option ∷ fresh device ∷ []) (run_of (after settings option (right_word option))) (least_tail word option names says))
      where
        unfit : (more : List Word) (form : Form) → Follows device settings option (said ∷ more) form → ⊥
        unfit more form follows =
            true≢false (sym (ap (may_say option) (same_head said follows.said more follows.rest (second option says (said ∷ more) form follows)) ∙ follows.fits) ∙ wrong)

    option_read : (word : Word) (option : RunOption) → Names settings word (Some option) → is_flag option ≡ false → (said : Word) → may_say option said ≡ true → (words : List Word) (result : Result Form ℕ)
        → Judged (place_of (after settings option said)) (IsTail device (after settings option said)) words result
        → Judged (place_of settings) (IsTail device settings) (word ∷ said ∷ words) result
    option_read word option names says said fits words result judged =
        let next : Settings = after settings option said in
        judged_step (place_of settings) (IsTail device settings) word (said ∷ words) result
        (judged_step (place_of settings + 1) (λ rest. IsTail device settings (word ∷ rest)) said words result
        (judged_same (IsTail device next) (λ rest. IsTail device settings (word ∷ said ∷ rest)) to from (place_of settings + 1 + 1) words result
        (subst (λ (n : ℕ). Judged n (IsTail device next) words result) (place_step option settings said says names.1) judged)))
      where
        to : (rest : List Word) (form : Form) → IsTail device (after settings option said) rest form → IsTail device settings (word ∷ said ∷ rest) form
        to rest form tail = first_two word option names says said fits rest form tail

        from : (rest : List Word) (form : Form) → IsTail device settings (word ∷ said ∷ rest) form → IsTail device (after settings option said) rest form
        from rest form tail = by (tail_first device settings word option names.0 names.1 (said ∷ rest) form tail) where
          by : Follows device settings option (said ∷ rest) form → IsTail device (after settings option said) rest form
          by follows =
              let spelled : said ∷ rest ≡ follows.said ∷ follows.rest = second option says (said ∷ rest) form follows in
              subst (λ (l : List Word). IsTail device (after settings option said) l form) (sym (same_tail said follows.said rest follows.rest spelled))
              (subst (λ (w : Word). IsTail device (after settings option w) follows.rest form) (sym (same_head said follows.said rest follows.rest spelled)) follows.behind)

    -- an option of which nothing is said
    flag_read : (word : Word) (option : RunOption) → Names settings word (Some option) → is_flag option ≡ true → (words : List Word) (result : Result Form ℕ)
        → Judged (place_of (with_trace settings)) (IsTail device (with_trace settings)) words result → Judged (place_of settings) (IsTail device settings) (word ∷ words) result
    flag_read word Pages names flag words result judged = absurd (true≢false (sym flag))
    flag_read word History names flag words result judged = absurd (true≢false (sym flag))
    flag_read word Workers names flag words result judged = absurd (true≢false (sym flag))
    flag_read word Format names flag words result judged = absurd (true≢false (sym flag))
    flag_read word Trace names flag words result judged =
        let next : Settings = with_trace settings in
        judged_step (place_of settings) (IsTail device settings) word words result
        (judged_same (IsTail device next) (λ rest. IsTail device settings (word ∷ rest)) to from (place_of settings + 1) words result
        (subst (λ (n : ℕ). Judged n (IsTail device next) words result) (place_flag settings [] names.1) judged))
      where
        to : (rest : List Word) (form : Form) → IsTail device (with_trace settings) rest form → IsTail device settings (word ∷ rest) form
        to rest form tail = first_tail device settings word Trace names.0 names.1 [] refl rest form tail

        from : (rest : List Word) (form : Form) → IsTail device settings (word ∷ rest) form → IsTail device (with_trace settings) rest form
        from rest form tail = by (tail_first device settings word Trace names.0 names.1 rest form tail) where
          by : Follows device settings Trace rest form → IsTail device (with_trace settings) rest form
          by follows = subst (λ (l : List Word). IsTail device (with_trace settings) l form) (sym follows.spelled) follows.behind

    one_left : (word : Word) → Judged (place_of (with_trace settings)) (IsTail device (with_trace settings)) [] (Err (place_of (with_trace settings))) → (o : Option RunOption) → Names settings word o
        → Judged (place_of settings) (IsTail device settings) (word ∷ [])
        (by_option settings o (λ option. None) (read_scripts device settings (word ∷ [])) (Err (place_of (with_trace settings))) (λ next. Err (place_of next)))
    one_left word traced None names = scripts_read word [] names
    one_left word traced (Some option) names =
        cond_both (is_flag option) (Err (place_of (with_trace settings))) (Err (place_of settings + 1)) (λ (r : Result Form ℕ). Judged (place_of settings) (IsTail device settings) (word ∷ []) r)
        (λ flag. flag_read word option names flag [] (Err (place_of (with_trace settings))) traced) (λ says. word_missing word option names says)

    two_left : (word said : Word) (words : List Word) (flagged : Result Form ℕ) (rest : Settings → Result Form ℕ)
        → Judged (place_of (with_trace settings)) (IsTail device (with_trace settings)) (said ∷ words) flagged
        → ((next : Settings) → Judged (place_of next) (IsTail device next) words (rest next))
        → (o : Option RunOption) → Names settings word o
        → Judged (place_of settings) (IsTail device settings) (word ∷ said ∷ words)
        (by_option settings o (λ option. with_said settings option said) (read_scripts device settings (word ∷ said ∷ words)) flagged rest)
    two_left word said words flagged rest traced further None names = scripts_read word (said ∷ words) names
    two_left word said words flagged rest traced further (Some option) names =
        cond_both (is_flag option) flagged (by_said settings (with_said settings option said) rest) (λ (r : Result Form ℕ). Judged (place_of settings) (IsTail device settings) (word ∷ said ∷ words) r)
        (λ flag. flag_read word option names flag (said ∷ words) flagged traced)
        (λ says. by says (with_said settings option said) (said_tells settings option said says))
      where
        by : is_flag option ≡ false → (o : Option Settings) → SaidTells settings option said o → Judged (place_of settings) (IsTail device settings) (word ∷ said ∷ words) (by_said settings o rest)
        by says None wrong = word_refused word option names says said wrong words
        by says (Some next) (fits, is) =
            option_read word option names says said fits words (rest next)
            (subst (λ (s : Settings). Judged (place_of s) (IsTail device s) words (rest next)) is (further next))

  none_left : (settings : Settings) → Judged (place_of settings) (IsTail device settings) [] (Err (place_of settings))
  none_left settings = missing (place_of settings) (IsTail device settings) (no_tail settings) (fresh device ∷ []) (run_of settings) (fresh_tail settings)

  pub settings_judged : (words : List Word) (settings : Settings) → Judged (place_of settings) (IsTail device settings) words (read_settings device words settings)
  settings_judged [] settings = none_left settings
  settings_judged (word ∷ []) settings = one_left settings word (none_left (with_trace settings)) (next_option settings word) (option_names settings word)
  settings_judged (word ∷ said ∷ words) settings =
      two_left settings word said words (read_settings device (said ∷ words) (with_trace settings)) (read_settings device words) (settings_judged (said ∷ words) (with_trace settings))
      (λ next. settings_judged words next) (next_option settings word) (option_names settings word)
