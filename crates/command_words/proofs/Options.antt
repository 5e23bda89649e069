-- Which option a word names, and what a form says of it.
use Rattle.std.proofs.Common.{◌≡◌, ℕ, Bool, ◌||◌, ◌+◌, ◌≤◌, true, false, cond, Option, None, Some, List, [], ◌∷◌, ◌++◌, length, refl, sym, ap, subst, ◌∙◌, arith, append_assoc, true≢false, is_some, unwrap_or, lit≤}
use Rattle.std.specs.Prelude.{codes, count_by, flat_map}
use Rattle.std.specs.List.{list_all, list_any}
use Rattle.std.specs.Str.{bytes_eq}
use Rattle.std.specs.Str.Parse.{digits_value}
use Rattle.std.proofs.lemmas.Bool.{and_parts, and_from, or_parts, cond_both}
use Rattle.std.proofs.lemmas.List.Sums.{sum_by-cons}
use Rattle.command_words.specs.declared.words.forms.Form.{Form}
use Rattle.command_words.specs.declared.words.forms.Form.TheVariants.{Run}
use Rattle.command_words.specs.declared.words.settings.RunOption.{RunOption}
use Rattle.command_words.specs.declared.words.settings.RunOption.TheVariants.{Pages, History, Workers, Format, Trace}
use Rattle.command_words.specs.declared.words.settings.Settings.{Settings}
use Rattle.command_words.specs.Forms.{Word, Setting, is_dashed, is_flag, option_word, said_words, setting_words, may_say, is_right, is_option, is_there, number_in}
use Rattle.command_words.specs.Inner.Reading.{is_given, flag_of, words_of, place_of, if_new, next_option, run_of}
use Rattle.command_words.proofs.Names.{Good, same_bytes, bytes_eq-self}
use Rattle.command_words.proofs.Heads.{same_head, same_tail, unlike}
use Rattle.command_words.proofs.ScriptLemmas.{AreScripts}

-- 1 where it is so
abbrev pub count : Bool → ℕ
count false = 0
count true = 1

-- the settings with what is said of one more option
abbrev pub after : Settings → RunOption → Word → Settings
after settings Pages said = record settings { pages = Some (digits_value 10 said) }
after settings History said = record settings { history = Some (digits_value 10 said) }
after settings Workers said = record settings { workers = Some (digits_value 10 said) }
after settings Format said = record settings { csv = true }
after settings Trace said = record settings { trace = true }

-- the form, of the options read so far and those that follow
abbrev pub run_with : Settings → List Setting → Form
run_with settings more =
    Run 1 (unwrap_or settings.workers (number_in Workers 4 more)) (unwrap_or settings.pages (number_in Pages 65536 more)) (unwrap_or settings.history (number_in History 1048576 more))
    (record { csv = settings.csv || is_there Format more; trace = settings.trace || is_there Trace more }) (place_of settings + length (flat_map setting_words more))

-- words behind the device and the options so far
pub record IsTail (device : Word) (settings : Settings) (words : List Word) (form : Form) : Type 0 where
  pub more : List Setting
  pub scripts : List Word
  pub spelled : words ≡ flat_map setting_words more ++ scripts
  pub right : list_all is_right more ≡ true
  pub once : (option : RunOption) → count_by (λ setting. is_option option setting.option) more + count (is_given settings option) ≤ 1
  pub some : 1 ≤ length scripts
  pub good : Good device scripts
  pub is : form ≡ run_with settings more

abbrev pub Names : Settings → Word → Option RunOption → Type 0
Names settings word None = (option : RunOption) → word ≡ option_word option → is_given settings option ≡ true
Names settings word (Some option) = (word ≡ option_word option) × (is_given settings option ≡ false)

-- an option that a word names is new, or given already
if_new_tells : (settings : Settings) (word : Word) (option : RunOption) → word ≡ option_word option → ((other : RunOption) → word ≡ option_word other → other ≡ option)
    → Names settings word (if_new settings (Some option))
if_new_tells settings word option is only = by (is_given settings option) refl where
  by : (b : Bool) → is_given settings option ≡ b → Names settings word (cond b None (Some option))
  by false e = (is, e)
  by true e = λ other same. ap (is_given settings) (only other same) ∙ e

pub option_word-same : (one other : RunOption) → option_word one ≡ option_word other → one ≡ other
option_word-same Pages Pages e = refl
option_word-same History History e = refl
option_word-same Workers Workers e = refl
option_word-same Format Format e = refl
option_word-same Trace Trace e = refl
option_word-same Pages History e = absurd (unlike (codes "--pages") (codes "--history") refl e)
option_word-same Pages Workers e = absurd (unlike (codes "--pages") (codes "--workers") refl e)
option_word-same Pages Format e = absurd (unlike (codes "--pages") (codes "--format") refl e)
option_word-same Pages Trace e = absurd (unlike (codes "--pages") (codes "--trace") refl e)
option_word-same History Pages e = absurd (unlike (codes "--history") (codes "--pages") refl e)
option_word-same History Workers e = absurd (unlike (codes "--history") (codes "--workers") refl e)
option_word-same History Format e = absurd (unlike (codes "--history") (codes "--format") refl e)
option_word-same History Trace e = absurd (unlike (codes "--history") (codes "--trace") refl e)
option_word-same Workers Pages e = absurd (unlike (codes "--workers") (codes "--pages") refl e)
option_word-same Workers History e = absurd (unlike (codes "--workers") (codes "--history") refl e)
option_word-same Workers Format e = absurd (unlike (codes "--workers") (codes "--format") refl e)
option_word-same Workers Trace e = absurd (unlike (codes "--workers") (codes "--trace") refl e)
option_word-same Format Pages e = absurd (unlike (codes "--format") (codes "--pages") refl e)
option_word-same Format History e = absurd (unlike (codes "--format") (codes "--history") refl e)
option_word-same Format Workers e = absurd (unlike (codes "--format") (codes "--workers") refl e)
option_word-same Format Trace e = absurd (unlike (codes "--format") (codes "--trace") refl e)
option_word-same Trace Pages e = absurd (unlike (codes "--trace") (codes "--pages") refl e)
option_word-same Trace History e = absurd (unlike (codes "--trace") (codes "--history") refl e)
option_word-same Trace Workers e = absurd (unlike (codes "--trace") (codes "--workers") refl e)
option_word-same Trace Format e = absurd (unlike (codes "--trace") (codes "--format") refl e)

pub option_names : (settings : Settings) (word : Word) → Names settings word (next_option settings word)
option_names settings word =
    let P : Option RunOption → Type 0 = λ o. Names settings word (if_new settings o) in
    let last : Option RunOption = cond (bytes_eq word (codes "--trace")) (Some Trace) None in
    let latter : Option RunOption = cond (bytes_eq word (codes "--format")) (Some Format) last in
    let later : Option RunOption = cond (bytes_eq word (codes "--workers")) (Some Workers) latter in
    cond_both (bytes_eq word (codes "--pages")) (Some Pages) (cond (bytes_eq word (codes "--history")) (Some History) later) P (is Pages)
    (λ a. cond_both (bytes_eq word (codes "--history")) (Some History) later P (is History)
    (λ b. cond_both (bytes_eq word (codes "--workers")) (Some Workers) latter P (is Workers)
    (λ c. cond_both (bytes_eq word (codes "--format")) (Some Format) last P (is Format)
    (λ d. cond_both (bytes_eq word (codes "--trace")) (Some Trace) None P (is Trace) (λ e. neither a b c d e)))))
  where
    is : (option : RunOption) → bytes_eq word (option_word option) ≡ true → Names settings word (if_new settings (Some option))
    is option e = if_new_tells settings word option (same_bytes word (option_word option) e) (λ other same. option_word-same other option (sym same ∙ same_bytes word (option_word option) e))

    neither : bytes_eq word (codes "--pages") ≡ false → bytes_eq word (codes "--history") ≡ false → bytes_eq word (codes "--workers") ≡ false
        → bytes_eq word (codes "--format") ≡ false → bytes_eq word (codes "--trace") ≡ false → (option : RunOption) → word ≡ option_word option → is_given settings option ≡ true
    neither a b c d e Pages same = absurd (unlike word (codes "--pages") a same)
    neither a b c d e History same = absurd (unlike word (codes "--history") b same)
    neither a b c d e Workers same = absurd (unlike word (codes "--workers") c same)
    neither a b c d e Format same = absurd (unlike word (codes "--format") d same)
    neither a b c d e Trace same = absurd (unlike word (codes "--trace") e same)

abbrev pub tally : RunOption → List Setting → ℕ
tally option more = count_by (λ (setting : Setting). is_option option setting.option) more

tally-cons : (option : RunOption) (setting : Setting) (more : List Setting) → tally option (setting ∷ more) ≡ cond (is_option option setting.option) 1 0 + tally option more
tally-cons option setting more = sum_by-cons (λ (s : Setting). cond (is_option option s.option) 1 0) setting more

once_less : (option other : RunOption) (settings : Settings) (n : ℕ) (said : Word) → is_given settings option ≡ false
    → (cond (is_option other option) 1 0 + n) + count (is_given settings other) ≤ 1 → n + count (is_given (after settings option said) other) ≤ 1
once_less Pages Pages settings n said new h = let none : count (is_some settings.pages) ≡ 0 = ap count new in omega arith
once_less History History settings n said new h = let none : count (is_some settings.history) ≡ 0 = ap count new in omega arith
once_less Workers Workers settings n said new h = let none : count (is_some settings.workers) ≡ 0 = ap count new in omega arith
once_less Format Format settings n said new h = let none : count (settings.csv) ≡ 0 = ap count new in omega arith
once_less Trace Trace settings n said new h = let none : count (settings.trace) ≡ 0 = ap count new in omega arith
once_less Pages History settings n said new h = omega arith
once_less Pages Workers settings n said new h = omega arith
once_less Pages Format settings n said new h = omega arith
once_less Pages Trace settings n said new h = omega arith
once_less History Pages settings n said new h = omega arith
once_less History Workers settings n said new h = omega arith
once_less History Format settings n said new h = omega arith
once_less History Trace settings n said new h = omega arith
once_less Workers Pages settings n said new h = omega arith
once_less Workers History settings n said new h = omega arith
once_less Workers Format settings n said new h = omega arith
once_less Workers Trace settings n said new h = omega arith
once_less Format Pages settings n said new h = omega arith
once_less Format History settings n said new h = omega arith
once_less Format Workers settings n said new h = omega arith
once_less Format Trace settings n said new h = omega arith
once_less Trace Pages settings n said new h = omega arith
once_less Trace History settings n said new h = omega arith
once_less Trace Workers settings n said new h = omega arith
once_less Trace Format settings n said new h = omega arith

once_more : (option other : RunOption) (settings : Settings) (n : ℕ) (said : Word) → is_given settings option ≡ false
    → n + count (is_given (after settings option said) other) ≤ 1 → (cond (is_option other option) 1 0 + n) + count (is_given settings other) ≤ 1
once_more Pages Pages settings n said new h = let none : count (is_some settings.pages) ≡ 0 = ap count new in omega arith
once_more History History settings n said new h = let none : count (is_some settings.history) ≡ 0 = ap count new in omega arith
once_more Workers Workers settings n said new h = let none : count (is_some settings.workers) ≡ 0 = ap count new in omega arith
once_more Format Format settings n said new h = let none : count (settings.csv) ≡ 0 = ap count new in omega arith
once_more Trace Trace settings n said new h = let none : count (settings.trace) ≡ 0 = ap count new in omega arith
once_more Pages History settings n said new h = omega arith
once_more Pages Workers settings n said new h = omega arith
once_more Pages Format settings n said new h = omega arith
once_more Pages Trace settings n said new h = omega arith
once_more History Pages settings n said new h = omega arith
once_more History Workers settings n said new h = omega arith
once_more History Format settings n said new h = omega arith
once_more History Trace settings n said new h = omega arith
once_more Workers Pages settings n said new h = omega arith
once_more Workers History settings n said new h = omega arith
once_more Workers Format settings n said new h = omega arith
once_more Workers Trace settings n said new h = omega arith
once_more Format Pages settings n said new h = omega arith
once_more Format History settings n said new h = omega arith
once_more Format Workers settings n said new h = omega arith
once_more Format Trace settings n said new h = omega arith
once_more Trace Pages settings n said new h = omega arith
once_more Trace History settings n said new h = omega arith
once_more Trace Workers settings n said new h = omega arith
once_more Trace Format settings n said new h = omega arith

abbrev setting_of : RunOption → Word → Setting
setting_of option said = record { option = option; said = said }

unset : (o : Option ℕ) (value : ℕ) → is_some o ≡ false → unwrap_or o value ≡ value
unset None value new = refl
unset (Some number) value new = absurd (true≢false new)

form_step : (option : RunOption) (settings : Settings) (said : Word) (more : List Setting) → is_given settings option ≡ false
    → run_with settings (setting_of option said ∷ more) ≡ run_with (after settings option said) more
form_step Pages settings said more new =
    let value : ℕ = digits_value 10 said in
    let pages : unwrap_or settings.pages value ≡ value = unset settings.pages value new in
    let none : words_of (is_some settings.pages) ≡ 0 = ap words_of new in
    let place : place_of settings + length (flat_map setting_words (setting_of Pages said ∷ more)) ≡ place_of (after settings Pages said) + length (flat_map setting_words more) = omega arith in
    λ i. Run 1 (unwrap_or settings.workers (number_in Workers 4 more)) (pages i) (unwrap_or settings.history (number_in History 1048576 more))
    (record { csv = settings.csv || is_there Format more; trace = settings.trace || is_there Trace more }) (place i)
form_step History settings said more new =
    let value : ℕ = digits_value 10 said in
    let history : unwrap_or settings.history value ≡ value = unset settings.history value new in
    let none : words_of (is_some settings.history) ≡ 0 = ap words_of new in
    let place : place_of settings + length (flat_map setting_words (setting_of History said ∷ more)) ≡ place_of (after settings History said) + length (flat_map setting_words more) = omega arith in
    λ i. Run 1 (unwrap_or settings.workers (number_in Workers 4 more)) (unwrap_or settings.pages (number_in Pages 65536 more)) (history i)
    (record { csv = settings.csv || is_there Format more; trace = settings.trace || is_there Trace more }) (place i)
form_step Workers settings said more new =
    let value : ℕ = digits_value 10 said in
    let workers : unwrap_or settings.workers value ≡ value = unset settings.workers value new in
    let none : words_of (is_some settings.workers) ≡ 0 = ap words_of new in
    let place : place_of settings + length (flat_map setting_words (setting_of Workers said ∷ more)) ≡ place_of (after settings Workers said) + length (flat_map setting_words more) = omega arith in
    λ i. Run 1 (workers i) (unwrap_or settings.pages (number_in Pages 65536 more)) (unwrap_or settings.history (number_in History 1048576 more))
    (record { csv = settings.csv || is_there Format more; trace = settings.trace || is_there Trace more }) (place i)
form_step Format settings said more new =
    let none : words_of (settings.csv) ≡ 0 = ap words_of new in
    let place : place_of settings + length (flat_map setting_words (setting_of Format said ∷ more)) ≡ place_of (after settings Format said) + length (flat_map setting_words more) = omega arith in
    let csv : (settings.csv || true) ≡ true = ap (λ b. b || true) new in
    λ i. Run 1 (unwrap_or settings.workers (number_in Workers 4 more)) (unwrap_or settings.pages (number_in Pages 65536 more)) (unwrap_or settings.history (number_in History 1048576 more))
    (record { csv = csv i; trace = settings.trace || is_there Trace more }) (place i)
form_step Trace settings said more new =
    let none : flag_of (settings.trace) ≡ 0 = ap flag_of new in
    let place : place_of settings + length (flat_map setting_words (setting_of Trace said ∷ more)) ≡ place_of (after settings Trace said) + length (flat_map setting_words more) = omega arith in
    let trace : (settings.trace || true) ≡ true = ap (λ b. b || true) new in
    λ i. Run 1 (unwrap_or settings.workers (number_in Workers 4 more)) (unwrap_or settings.pages (number_in Pages 65536 more)) (unwrap_or settings.history (number_in History 1048576 more))
    (record { csv = settings.csv || is_there Format more; trace = trace i }) (place i)

or_false : (b : Bool) → (b || false) ≡ b
or_false true = refl
or_false false = refl

run_start : (settings : Settings) → run_with settings [] ≡ run_of settings
run_start settings =
    let place : place_of settings + 0 ≡ place_of settings = omega arith in
    λ i. Run 1 (unwrap_or settings.workers 4) (unwrap_or settings.pages 65536) (unwrap_or settings.history 1048576)
    (record { csv = or_false settings.csv i; trace = or_false settings.trace i }) (place i)

pub place_step : (option : RunOption) (settings : Settings) (said : Word) → is_flag option ≡ false → is_given settings option ≡ false
    → place_of (after settings option said) ≡ place_of settings + 1 + 1
place_step Pages settings said says new = let none : words_of (is_some settings.pages) ≡ 0 = ap words_of new in omega arith
place_step History settings said says new = let none : words_of (is_some settings.history) ≡ 0 = ap words_of new in omega arith
place_step Workers settings said says new = let none : words_of (is_some settings.workers) ≡ 0 = ap words_of new in omega arith
place_step Format settings said says new = let none : words_of (settings.csv) ≡ 0 = ap words_of new in omega arith
place_step Trace settings said says new = absurd (true≢false says)

-- an option of which nothing is said is one word
pub place_flag : (settings : Settings) (said : Word) → is_given settings Trace ≡ false → place_of (after settings Trace said) ≡ place_of settings + 1
place_flag settings said new = let none : flag_of (settings.trace) ≡ 0 = ap flag_of new in omega arith

count-le : (b : Bool) → count b ≤ 1
count-le false = lit≤ tt
count-le true = lit≤ tt

is_option-self : (option : RunOption) → is_option option option ≡ true
is_option-self option = bytes_eq-self (option_word option)

dashed_option : (option : RunOption) → is_dashed (option_word option) ≡ true
dashed_option Pages = refl
dashed_option History = refl
dashed_option Workers = refl
dashed_option Format = refl
dashed_option Trace = refl

pub two_words : (option : RunOption) (said : Word) → is_flag option ≡ false → said_words option said ≡ said ∷ []
two_words option said says = ap (λ b. cond b [] (said ∷ [])) says

-- an option that stands first, with what is said of it
pub record Follows (device : Word) (settings : Settings) (option : RunOption) (words : List Word) (form : Form) : Type 0 where
  pub said : Word
  pub rest : List Word
  pub spelled : words ≡ said_words option said ++ rest
  pub fits : may_say option said ≡ true
  pub behind : IsTail device (after settings option said) rest form

module _ (device : Word) (settings : Settings) (word : Word) where
  pub tail_first : (option : RunOption) → word ≡ option_word option → is_given settings option ≡ false
      → (words : List Word) (form : Form) → IsTail device settings (word ∷ words) form → Follows device settings option words form
  tail_first option is new words form tail = by tail.more tail.spelled tail.right tail.once tail.is where
    by : (more : List Setting) → word ∷ words ≡ flat_map setting_words more ++ tail.scripts → list_all is_right more ≡ true
        → ((other : RunOption) → tally other more + count (is_given settings other) ≤ 1) → form ≡ run_with settings more → Follows device settings option words form
    by [] spelled right once made =
        let named : list_any is_dashed (word ∷ words) ≡ false = subst (λ (l : List Word). list_any is_dashed l ≡ false) (sym spelled) tail.good.named in
        absurd (true≢false (sym (ap is_dashed is ∙ dashed_option option) ∙ (or_parts (is_dashed word) (list_any is_dashed words) named).0))
    by (s ∷ more) spelled right once made =
        let behind : List Word = (said_words s.option s.said ++ flat_map setting_words more) ++ tail.scripts in
        let same : s.option ≡ option = option_word-same s.option option (sym (same_head word (option_word s.option) words behind spelled) ∙ is) in
        let (fits, others) = and_parts (is_right s) (list_all is_right more) right in
        record {
          said = s.said;
          rest = flat_map setting_words more ++ tail.scripts;
          spelled = same_tail word (option_word s.option) words behind spelled ∙ append_assoc (said_words s.option s.said) (flat_map setting_words more) tail.scripts
              ∙ ap (λ (o : RunOption). said_words o s.said ++ (flat_map setting_words more ++ tail.scripts)) same;
          fits = subst (λ (o : RunOption). may_say o s.said ≡ true) same fits;
          behind = record {
            more = more;
            scripts = tail.scripts;
            spelled = refl;
            right = others;
            once = λ other.
                let counted : tally other (s ∷ more) ≡ cond (is_option other option) 1 0 + tally other more =
                tally-cons other s more ∙ ap (λ (o : RunOption). cond (is_option other o) 1 0 + tally other more) same in
                once_less option other settings (tally other more) s.said new (subst (λ (n : ℕ). n + count (is_given settings other) ≤ 1) counted (once other));
            some = tail.some;
            good = tail.good;
            is = made ∙ ap (λ (o : RunOption). run_with settings (setting_of o s.said ∷ more)) same ∙ form_step option settings s.said more new;
          };
        }

  pub first_tail : (option : RunOption) → word ≡ option_word option → is_given settings option ≡ false → (said : Word) → may_say option said ≡ true
      → (rest : List Word) (form : Form) → IsTail device (after settings option said) rest form → IsTail device settings (word ∷ (said_words option said ++ rest)) form
  first_tail option is new said fits rest form tail = record {
    more = setting_of option said ∷ tail.more;
    scripts = tail.scripts;
    spelled =
        let behind : said_words option said ++ rest ≡ (said_words option said ++ flat_map setting_words tail.more) ++ tail.scripts
        = ap (λ (l : List Word). said_words option said ++ l) tail.spelled ∙ sym (append_assoc (said_words option said) (flat_map setting_words tail.more) tail.scripts) in
        λ i. is i ∷ behind i;
    right = and_from (may_say option said) (list_all is_right tail.more) fits tail.right;
    once = λ other.
        subst (λ (n : ℕ). n + count (is_given settings other) ≤ 1) (sym (tally-cons other (setting_of option said) tail.more))
        (once_more option other settings (tally other tail.more) said new (tail.once other));
    some = tail.some;
    good = tail.good;
    is = tail.is ∙ sym (form_step option settings said tail.more new);
  }

  pub tail_scripts : Names settings word None → (words : List Word) (form : Form) → IsTail device settings (word ∷ words) form → AreScripts device settings [] (word ∷ words) form
  tail_scripts unnamed words form tail = by tail.more tail.spelled tail.once tail.is where
    by : (more : List Setting) → word ∷ words ≡ flat_map setting_words more ++ tail.scripts
        → ((other : RunOption) → tally other more + count (is_given settings other) ≤ 1) → form ≡ run_with settings more → AreScripts device settings [] (word ∷ words) form
    by [] spelled once made = record {
      some = omega arith;
      good = subst (Good device) (sym spelled) tail.good;
      is = made ∙ run_start settings;
    }
    by (s ∷ more) spelled once made =
        let named : word ≡ option_word s.option = same_head word (option_word s.option) words ((said_words s.option s.said ++ flat_map setting_words more) ++ tail.scripts) spelled in
        let there : count (is_given settings s.option) ≡ 1 = ap count (unnamed s.option named) in
        let counted : tally s.option (s ∷ more) ≡ 1 + tally s.option more = tally-cons s.option s more ∙ ap (λ b. cond b 1 0 + tally s.option more) (is_option-self s.option) in
        let most : tally s.option (s ∷ more) + count (is_given settings s.option) ≤ 1 = once s.option in
        absurd (let none : ⊥ = omega arith in none)

pub scripts_tail : (device : Word) (settings : Settings) (words : List Word) (form : Form) → AreScripts device settings [] words form → IsTail device settings words form
scripts_tail device settings words form are = record {
  more = [];
  scripts = words;
  spelled = refl;
  right = refl;
  once = λ option. let most : count (is_given settings option) ≤ 1 = count-le (is_given settings option) in omega arith;
  some = are.some;
  good = are.good;
  is = are.is ∙ sym (run_start settings);
}
