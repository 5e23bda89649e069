-- What is read of words, one after the other.
use Rattle.std.specs.Prelude.{ℕ, ◌+◌, Bool, true, false, ◌&&◌, ◌||◌, not, nat_lt, if◌then◌else◌, codes, List, [], ◌∷◌, ◌++◌, length}
use Rattle.std.specs.Prelude.{Option, None, Some, Result, Ok, Err, is_some, unwrap_or}
use Rattle.std.specs.List.{list_any}
use Rattle.std.specs.Str.{bytes_eq}
use Rattle.std.specs.Str.Parse.{digits_value}
use Rattle.command_words.specs.declared.words.forms.Form.{Form}
use Rattle.command_words.specs.declared.words.forms.Form.TheVariants.{Try, Init, Run, Generate}
use Rattle.command_words.specs.declared.words.settings.RunOption.{RunOption}
use Rattle.command_words.specs.declared.words.settings.RunOption.TheVariants.{Pages, History, Workers, Format, Trace}
use Rattle.command_words.specs.declared.words.settings.Settings.{Settings}
use Rattle.command_words.specs.Forms.{Word, is_dashed, is_flag, is_number_within, is_script_number}

abbrev pub is_given : Settings → RunOption → Bool
is_given settings Pages = is_some settings.pages
is_given settings History = is_some settings.history
is_given settings Workers = is_some settings.workers
is_given settings Format = settings.csv
is_given settings Trace = settings.trace

abbrev pub no_settings : Settings
no_settings = record { pages = None; history = None; workers = None; csv = false; trace = false }

-- the number that the word is, in this range
abbrev pub number_within : ℕ → ℕ → Word → Option ℕ
number_within least most word = if is_number_within least most word then Some (digits_value 10 word) else None

abbrev pub with_pages : Settings → Option ℕ → Option Settings
with_pages settings None = None
with_pages settings (Some number) = Some (record settings { pages = Some number })

abbrev pub with_history : Settings → Option ℕ → Option Settings
with_history settings None = None
with_history settings (Some number) = Some (record settings { history = Some number })

abbrev pub with_workers : Settings → Option ℕ → Option Settings
with_workers settings None = None
with_workers settings (Some number) = Some (record settings { workers = Some number })

-- these settings and the option with what is said of it, where that may be said
abbrev pub with_said : Settings → RunOption → Word → Option Settings
with_said settings Pages said = with_pages settings (number_within 16 1048576 said)
with_said settings History said = with_history settings (number_within 16 1048576 said)
with_said settings Workers said = with_workers settings (number_within 1 64 said)
with_said settings Format said = if bytes_eq said (codes "csv+") then Some (record settings { csv = true }) else None
with_said settings Trace said = None

-- these settings and `--trace`, of which nothing is said
abbrev pub with_trace : Settings → Settings
with_trace settings = record settings { trace = true }

-- the words of an option of two words
abbrev pub words_of : Bool → ℕ
words_of false = 0
words_of true = 2

-- the word of an option that is its name alone
abbrev pub flag_of : Bool → ℕ
flag_of false = 0
flag_of true = 1

-- the place behind the device and the options so far
abbrev pub place_of : Settings → ℕ
place_of settings =
    2 + (words_of (is_some settings.pages) + words_of (is_some settings.history) + words_of (is_some settings.workers) + words_of settings.csv)
    + flag_of settings.trace

abbrev pub option_of : Word → Option RunOption
option_of word =
    if bytes_eq word (codes "--pages") then Some Pages
    else if bytes_eq word (codes "--history") then Some History
    else if bytes_eq word (codes "--workers") then Some Workers
    else if bytes_eq word (codes "--format") then Some Format
    else if bytes_eq word (codes "--trace") then Some Trace
    else None

abbrev pub if_new : Settings → Option RunOption → Option RunOption
if_new settings None = None
if_new settings (Some option) = if is_given settings option then None else Some option

-- the option that the word names, if it isn't given yet
abbrev pub next_option : Settings → Word → Option RunOption
next_option settings word = if_new settings (option_of word)

-- whether the reply of the script has the name
abbrev pub is_reply_of : Word → Word → Bool
is_reply_of name script = not (bytes_eq script (codes "-")) && bytes_eq name (script ++ codes ".out")

abbrev pub meets : Word → Word → Bool
meets name script = bytes_eq script name || is_reply_of name script || is_reply_of script name

abbrev pub is_taken : Word → List Word → Word → Bool
is_taken device before name = bytes_eq device name || is_reply_of device name || list_any (meets name) before

-- whether the word can be a script behind these
abbrev pub can_stand : Word → List Word → Word → Bool
can_stand device before word = nat_lt (length before) 16 && not (is_dashed word) && not (is_taken device before word)

-- the number of scripts before the first word that can't be one
abbrev pub wrong_from : Word → List Word → List Word → Option ℕ
wrong_from device before [] = None
wrong_from device before (word ∷ words) =
    if can_stand device before word then wrong_from device (before ++ word ∷ []) words else Some (length before)

abbrev pub run_of : Settings → Form
run_of settings =
    Run 1 (unwrap_or settings.workers 4) (unwrap_or settings.pages 65536) (unwrap_or settings.history 1048576)
    (record { csv = settings.csv; trace = settings.trace }) (place_of settings)

abbrev pub scripts_outcome : Settings → Option ℕ → Result Form ℕ
scripts_outcome settings None = Ok (run_of settings)
scripts_outcome settings (Some place) = Err (place_of settings + place)

abbrev pub read_scripts : Word → Settings → List Word → Result Form ℕ
read_scripts device settings words = scripts_outcome settings (wrong_from device [] words)

abbrev pub by_said : Settings → Option Settings → (Settings → Result Form ℕ) → Result Form ℕ
by_said settings None rest = Err (place_of settings + 1)
by_said settings (Some next) rest = rest next

-- the next word is no option, or is one of which nothing is said, or one with what is said of it
abbrev pub by_option : Settings → Option RunOption → (RunOption → Option Settings) → Result Form ℕ → Result Form ℕ → (Settings → Result Form ℕ) → Result Form ℕ
by_option settings None said scripts traced rest = scripts
by_option settings (Some option) said scripts traced rest = if is_flag option then traced else by_said settings (said option) rest

-- the words behind the device and the options so far
abbrev pub read_settings : Word → List Word → Settings → Result Form ℕ
read_settings device [] settings = Err (place_of settings)
read_settings device (word ∷ []) settings =
    by_option settings (next_option settings word) (λ option. None) (read_scripts device settings (word ∷ []))
    (Err (place_of (with_trace settings))) (λ next. Err (place_of next))
read_settings device (word ∷ said ∷ words) settings =
    by_option settings (next_option settings word) (λ option. with_said settings option said) (read_scripts device settings (word ∷ said ∷ words))
    (read_settings device (said ∷ words) (with_trace settings)) (read_settings device words)

abbrev pub read_run : List Word → Result Form ℕ
read_run [] = Err 1
read_run (device ∷ words) = if is_dashed device then Err 1 else read_settings device words no_settings

abbrev pub read_init : List Word → Result Form ℕ
read_init [] = Err 1
read_init (device ∷ []) = if is_dashed device then Err 1 else Ok (Init 1)
read_init (device ∷ word ∷ words) = if is_dashed device then Err 1 else Err 2

abbrev pub read_try : List Word → Result Form ℕ
read_try [] = Ok Try
read_try (word ∷ words) = Err 1

abbrev pub script_number : Word → Option ℕ
script_number word = if is_script_number word then Some (digits_value 10 word) else None

abbrev pub by_workers : ℕ → Option ℕ → List Word → Result Form ℕ
by_workers number None words = Err 3
by_workers number (Some workers) [] = Ok (Generate number workers)
by_workers number (Some workers) (word ∷ words) = Err 4

-- the words behind the number of a script
abbrev pub read_workers : ℕ → List Word → Result Form ℕ
read_workers number [] = Ok (Generate number 4)
read_workers number (name ∷ []) = if bytes_eq name (codes "--workers") then Err 3 else Err 2
read_workers number (name ∷ said ∷ words) = if bytes_eq name (codes "--workers") then by_workers number (number_within 1 64 said) words else Err 2

abbrev pub by_script_number : Option ℕ → List Word → Result Form ℕ
by_script_number None words = Err 1
by_script_number (Some number) words = read_workers number words

abbrev pub read_generate : List Word → Result Form ℕ
read_generate [] = Err 1
read_generate (digits ∷ words) = by_script_number (script_number digits) words

abbrev pub read_verb : Word → List Word → Result Form ℕ
read_verb verb words =
    if bytes_eq verb (codes "try") then read_try words
    else if bytes_eq verb (codes "init") then read_init words
    else if bytes_eq verb (codes "run") then read_run words
    else if bytes_eq verb (codes "generate") then read_generate words
    else Err 0

abbrev pub read_words : List Word → Result Form ℕ
read_words [] = Err 0
read_words (verb ∷ words) = read_verb verb words
