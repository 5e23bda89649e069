-- The first word of a form.
use Rattle.std.proofs.Common.{◌≡◌, List, [], ◌∷◌, ◌++◌}
use Rattle.std.specs.Prelude.{codes, flat_map}
use Rattle.command_words.specs.declared.words.forms.Form.{Form}
use Rattle.command_words.specs.declared.words.forms.Form.TheVariants.{Try, Init, Run, Generate}
use Rattle.command_words.specs.Forms.{Word, setting_words, workers_words, IsForm}
use Rattle.command_words.proofs.Heads.{same_head}

abbrev pub verb_word : Form → Word
verb_word Try = codes "try"
verb_word (Init device) = codes "init"
verb_word (Run device workers pages history printing scripts) = codes "run"
verb_word (Generate number workers) = codes "generate"

pub verb_is : (verb : Word) (words : List Word) (form : Form) → IsForm (verb ∷ words) form → verb ≡ verb_word form
verb_is verb words Try is = same_head verb (codes "try") words [] is
verb_is verb words (Init device) is = same_head verb (codes "init") words (is.1.device ∷ []) is.1.spelled
verb_is verb words (Run device workers pages history printing scripts) is =
    same_head verb (codes "run") words (is.1.device ∷ (flat_map setting_words is.1.settings ++ is.1.scripts)) is.1.spelled
verb_is verb words (Generate number workers) is = same_head verb (codes "generate") words (is.digits ∷ workers_words is.given) is.spelled

pub no_words : (form : Form) → IsForm [] form → ⊥
no_words Try is = cc
no_words (Init device) is = let none : [] ≡ codes "init" ∷ is.1.device ∷ [] = is.1.spelled in cc
no_words (Run device workers pages history printing scripts) is =
    let none : [] ≡ codes "run" ∷ is.1.device ∷ (flat_map setting_words is.1.settings ++ is.1.scripts) = is.1.spelled in cc
no_words (Generate number workers) is = let none : [] ≡ codes "generate" ∷ is.digits ∷ workers_words is.given = is.spelled in cc
