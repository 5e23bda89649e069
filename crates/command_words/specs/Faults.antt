-- The place where words leave the forms.
use Rattle.std.specs.Prelude.{ℕ, ◌+◌, ◌<◌, ◌≤◌, List, ◌++◌, length, take}
use Rattle.command_words.specs.declared.words.forms.Form.{Form}
use Rattle.command_words.specs.Forms.{Word, IsForm}

-- with some words behind them, these have a form
abbrev pub GoesOn : List Word → Type 0
GoesOn front = (more : List Word) × (form : Form) × IsForm (front ++ more) form

-- The words have no form, and the place is the length of the longest front of them that goes on. So there stands the first word
-- that no form has there, or, at the number of words, one is missing.
pub record IsFault (words : List Word) (place : ℕ) : Type 0 where
  pub no_form : (form : Form) → IsForm words form → ⊥
  pub within : place ≤ length words
  pub goes_on : GoesOn (take place words)
  pub longest : place < length words → GoesOn (take (place + 1) words) → ⊥
