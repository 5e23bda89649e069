-- The words of a slice, one after the other.
use Rattle.std.proofs.Common.{◌≡◌, ℕ, ◌+◌, ◌-◌, ◌≤◌, true, false, cond, Option, None, Some, Result, Err, List, [], ◌∷◌, length, get_or, take, drop, sym, ap, ◌∙◌, arith, take_all}
use Rattle.command_words.specs.declared.words.forms.Form.{Form}
use Rattle.command_words.specs.declared.words.settings.RunOption.{RunOption}
use Rattle.command_words.specs.declared.words.settings.Settings.{Settings}
use Rattle.command_words.specs.Forms.{Word, is_dashed, is_flag}
use Rattle.command_words.specs.Inner.Reading.{no_settings, next_option, place_of, with_said, with_trace, by_said, by_option, read_scripts, read_settings, read_run}
use Rattle.command_words.specs.Inner.Reading.{by_script_number, read_generate, read_verb, read_words, read_workers, script_number}

-- the words behind the first one, as the code cuts them
abbrev pub behind : List Word → List Word
behind words = take (length words - 1) (drop 1 words)

behind-cons : (word : Word) (words : List Word) → behind (word ∷ words) ≡ words
behind-cons word words = take_all (length (word ∷ words) - 1) words (omega arith)

first_word : (words : List Word) (item : Word) → 1 ≤ length words → item ≡ get_or words 0 item → words ≡ item ∷ behind words
first_word [] item some is = absurd (let none : ⊥ = omega arith in none)
first_word (word ∷ words) item some is = let rest : words ≡ behind (word ∷ words) = sym (behind-cons word words) in λ i. sym is i ∷ rest i

pub run_first : (words : List Word) (item tested name : Word) (settings : Settings) → 1 ≤ length words → item ≡ get_or words 0 item
    → tested ≡ item → is_dashed tested ≡ false → name ≡ item → settings ≡ no_settings
    → read_settings name (behind words) settings ≡ read_run words
run_first words item tested name settings some is tests plain shows begins =
    let same : read_settings name (behind words) settings ≡ read_settings item (behind words) no_settings = λ i. read_settings (shows i) (behind words) (begins i) in
    let kept : read_settings item (behind words) no_settings ≡ read_run (item ∷ behind words) =
    sym (ap (λ b. cond b (Err 1) (read_settings item (behind words) no_settings)) (ap is_dashed (sym tests) ∙ plain)) in
    same ∙ kept ∙ ap read_run (sym (first_word words item some is))

pub settings_two : (device : Word) (words : List Word) (settings next : Settings) (name shown said told : Word) (option : RunOption)
    → 1 ≤ length words → name ≡ get_or words 0 name → shown ≡ name → next_option settings shown ≡ Some option → is_flag option ≡ false
    → 1 ≤ length (behind words) → said ≡ get_or (behind words) 0 said → told ≡ said → with_said settings option told ≡ Some next
    → read_settings device (behind (behind words)) next ≡ read_settings device words settings
settings_two device words settings next name shown said told option some first shows chosen says more second tells goes =
    let rest : List Word = behind (behind words) in
    let split : words ≡ name ∷ said ∷ rest = first_word words name some first ∙ ap (λ (l : List Word). name ∷ l) (first_word (behind words) said more second) in
    let option_is : next_option settings name ≡ Some option = ap (next_option settings) (sym shows) ∙ chosen in
    let next_is : with_said settings option said ≡ Some next = ap (with_said settings option) (sym tells) ∙ goes in
    let flagged : Result Form ℕ = read_settings device (said ∷ rest) (with_trace settings) in
    let read : read_settings device words settings ≡ read_settings device rest next =
    ap (λ (l : List Word). read_settings device l settings) split
    ∙ ap (λ (o : Option RunOption). by_option settings o (λ given. with_said settings given said) (read_scripts device settings (name ∷ said ∷ rest)) flagged (read_settings device rest)) option_is
    ∙ ap (λ b. cond b flagged (by_said settings (with_said settings option said) (read_settings device rest))) says
    ∙ ap (λ (n : Option Settings). by_said settings n (read_settings device rest)) next_is in
    sym read

flag_reads : (device : Word) (rest : List Word) (settings : Settings) (name : Word) (option : RunOption) → next_option settings name ≡ Some option → is_flag option ≡ true
    → read_settings device (name ∷ rest) settings ≡ read_settings device rest (with_trace settings)
flag_reads device [] settings name option is flag =
    ap (λ (o : Option RunOption). by_option settings o (λ given. None) (read_scripts device settings (name ∷ [])) (Err (place_of (with_trace settings))) (λ next. Err (place_of next))) is
    ∙ ap (λ b. cond b (Err (place_of (with_trace settings))) (Err (place_of settings + 1))) flag
flag_reads device (said ∷ rest) settings name option is flag =
    let flagged : Result Form ℕ = read_settings device (said ∷ rest) (with_trace settings) in
    ap (λ (o : Option RunOption). by_option settings o (λ given. with_said settings given said) (read_scripts device settings (name ∷ said ∷ rest)) flagged (read_settings device rest)) is
    ∙ ap (λ b. cond b flagged (by_said settings (with_said settings option said) (read_settings device rest))) flag

pub settings_flag : (device : Word) (words : List Word) (settings next : Settings) (name shown : Word) (option : RunOption)
    → 1 ≤ length words → name ≡ get_or words 0 name → shown ≡ name → next_option settings shown ≡ Some option → is_flag option ≡ true → next ≡ with_trace settings
    → read_settings device (behind words) next ≡ read_settings device words settings
settings_flag device words settings next name shown option some first shows chosen flag is =
    ap (read_settings device (behind words)) is
    ∙ sym (flag_reads device (behind words) settings name option (ap (next_option settings) (sym shows) ∙ chosen) flag)
    ∙ sym (ap (λ (l : List Word). read_settings device l settings) (first_word words name some first))

-- what is said of the option may not be said
pub settings_wrong : (device : Word) (words : List Word) (settings : Settings) (name shown said told : Word) (option : RunOption) (place : ℕ)
    → 1 ≤ length words → name ≡ get_or words 0 name → shown ≡ name → next_option settings shown ≡ Some option → is_flag option ≡ false
    → 1 ≤ length (behind words) → said ≡ get_or (behind words) 0 said → told ≡ said → with_said settings option told ≡ None → place ≡ place_of settings
    → Err (place + 1) ≡ read_settings device words settings
settings_wrong device words settings name shown said told option place some first shows chosen says more second tells stops at =
    let rest : List Word = behind (behind words) in
    let split : words ≡ name ∷ said ∷ rest = first_word words name some first ∙ ap (λ (l : List Word). name ∷ l) (first_word (behind words) said more second) in
    let option_is : next_option settings name ≡ Some option = ap (next_option settings) (sym shows) ∙ chosen in
    let none : with_said settings option said ≡ None = ap (with_said settings option) (sym tells) ∙ stops in
    let flagged : Result Form ℕ = read_settings device (said ∷ rest) (with_trace settings) in
    let read : read_settings device words settings ≡ Err (place_of settings + 1) =
    ap (λ (l : List Word). read_settings device l settings) split
    ∙ ap (λ (o : Option RunOption). by_option settings o (λ given. with_said settings given said) (read_scripts device settings (name ∷ said ∷ rest)) flagged (read_settings device rest)) option_is
    ∙ ap (λ b. cond b flagged (by_said settings (with_said settings option said) (read_settings device rest))) says
    ∙ ap (λ (n : Option Settings). by_said settings n (read_settings device rest)) none in
    ap (λ n. Err (n + 1)) at ∙ sym read

no_option : (device : Word) (rest : List Word) (settings : Settings) (name : Word) → next_option settings name ≡ None
    → read_settings device (name ∷ rest) settings ≡ read_scripts device settings (name ∷ rest)
no_option device [] settings name none =
    ap (λ (o : Option RunOption). by_option settings o (λ given. None) (read_scripts device settings (name ∷ []))
    (Err (place_of (with_trace settings))) (λ next. Err (place_of next))) none
no_option device (said ∷ rest) settings name none =
    let flagged : Result Form ℕ = read_settings device (said ∷ rest) (with_trace settings) in
    ap (λ (o : Option RunOption). by_option settings o (λ given. with_said settings given said) (read_scripts device settings (name ∷ said ∷ rest)) flagged (read_settings device rest)) none

-- the scripts begin
pub settings_scripts : (device : Word) (words : List Word) (settings : Settings) (name shown : Word)
    → 1 ≤ length words → name ≡ get_or words 0 name → shown ≡ name → next_option settings shown ≡ None
    → read_scripts device settings words ≡ read_settings device words settings
settings_scripts device words settings name shown some first shows none =
    let split : words ≡ name ∷ behind words = first_word words name some first in
    ap (read_scripts device settings) split
    ∙ sym (no_option device (behind words) settings name (ap (next_option settings) (sym shows) ∙ none))
    ∙ sym (ap (λ (l : List Word). read_settings device l settings) split)

pub generate_first : (words : List Word) (item shown : Word) (number : ℕ) → 1 ≤ length words → item ≡ get_or words 0 item → shown ≡ item
    → script_number shown ≡ Some number → read_workers number (behind words) ≡ read_generate words
generate_first words item shown number some is shows reads =
    ap (λ (o : Option ℕ). by_script_number o (behind words)) (sym reads ∙ ap script_number shows)
    ∙ ap read_generate (sym (first_word words item some is))

pub words_first : (words : List Word) (item shown : Word) → 1 ≤ length words → item ≡ get_or words 0 item → shown ≡ item
    → read_verb shown (behind words) ≡ read_words words
words_first words item shown some is shows =
    ap (λ (v : Word). read_verb v (behind words)) shows ∙ ap read_words (sym (first_word words item some is))
