-- Where words leave a relation between words and forms, word by word.
use Rattle.std.proofs.Common.{◌≡◌, ℕ, suc, ◌+◌, ◌<◌, ◌≤◌, List, [], ◌∷◌, ◌++◌, length, take, Result, Ok, Err, arith}
use Rattle.command_words.specs.declared.words.forms.Form.{Form}
use Rattle.command_words.specs.Forms.{Word}

abbrev pub GoesOnIn : (List Word → Form → Type 0) → List Word → Type 0
GoesOnIn R front = (more : List Word) × (form : Form) × R (front ++ more) form

pub record FaultIn (R : List Word → Form → Type 0) (words : List Word) (place : ℕ) : Type 0 where
  pub no_form : (form : Form) → R words form → ⊥
  pub within : place ≤ length words
  pub goes_on : GoesOnIn R (take place words)
  pub longest : place < length words → GoesOnIn R (take (suc place) words) → ⊥

-- the outcome is the words' only form, or the place, counted from a base on, where they leave the relation
abbrev pub Judged : ℕ → (List Word → Form → Type 0) → List Word → Result Form ℕ → Type 0
Judged base R words (Ok form) = R words form × ((other : Form) → R words other → other ≡ form)
Judged base R words (Err place) = (k : ℕ) × (place ≡ base + k) × FaultIn R words k

-- two relations that agree on words with this first one, and of which the one has the other's forms
module _ (R S : List Word → Form → Type 0) (to : (words : List Word) (form : Form) → R words form → S words form) (w : Word)
    (from : (words : List Word) (form : Form) → S (w ∷ words) form → R (w ∷ words) form) where
  fault_first : (words : List Word) (k : ℕ) → FaultIn R (w ∷ words) k → FaultIn S (w ∷ words) k
  fault_first words k fault = record {
    no_form = λ form s. fault.no_form form (from words form s);
    within = fault.within;
    goes_on = (fault.goes_on.0, fault.goes_on.1, to (take k (w ∷ words) ++ fault.goes_on.0) fault.goes_on.1 fault.goes_on.2);
    longest = λ below more. fault.longest below (more.0, more.1, from (take k words ++ more.0) more.1 more.2);
  }

  pub judged_first : (base : ℕ) (words : List Word) (result : Result Form ℕ) → Judged base R (w ∷ words) result → Judged base S (w ∷ words) result
  judged_first base words (Ok form) judged = (to (w ∷ words) form judged.0, λ other s. judged.1 other (from words other s))
  judged_first base words (Err place) judged = (judged.0, judged.1, fault_first words judged.0 judged.2)

-- two relations that agree
module _ (R S : List Word → Form → Type 0) (to : (words : List Word) (form : Form) → R words form → S words form)
    (from : (words : List Word) (form : Form) → S words form → R words form) where
  fault_same : (words : List Word) (k : ℕ) → FaultIn R words k → FaultIn S words k
  fault_same words k fault = record {
    no_form = λ form s. fault.no_form form (from words form s);
    within = fault.within;
    goes_on = (fault.goes_on.0, fault.goes_on.1, to (take k words ++ fault.goes_on.0) fault.goes_on.1 fault.goes_on.2);
    longest = λ below more. fault.longest below (more.0, more.1, from (take (suc k) words ++ more.0) more.1 more.2);
  }

  pub judged_same : (base : ℕ) (words : List Word) (result : Result Form ℕ) → Judged base R words result → Judged base S words result
  judged_same base words (Ok form) judged = (to words form judged.0, λ other s. judged.1 other (from words other s))
  judged_same base words (Err place) judged = (judged.0, judged.1, fault_same words judged.0 judged.2)

module _ (base : ℕ) (R : List Word → Form → Type 0) where
  fault_step : (w : Word) (words : List Word) (k : ℕ) → FaultIn (λ rest. R (w ∷ rest)) words k → FaultIn R (w ∷ words) (suc k)
  fault_step w words k fault =
      let within : k ≤ length words = fault.within in
      record {
        no_form = fault.no_form;
        within = omega arith;
        goes_on = fault.goes_on;
        longest = λ below more. fault.longest (omega arith) more;
      }

  -- one word further
  pub judged_step : (w : Word) (words : List Word) (result : Result Form ℕ) → Judged (base + 1) (λ rest. R (w ∷ rest)) words result → Judged base R (w ∷ words) result
  judged_step w words (Ok form) judged = judged
  judged_step w words (Err place) judged =
      let at : place ≡ base + 1 + judged.0 = judged.1 in
      (suc judged.0, omega arith, fault_step w words judged.0 judged.2)

  -- a word is missing
  pub missing : ((form : Form) → R [] form → ⊥) → (more : List Word) (form : Form) → R more form → Judged base R [] (Err base)
  missing none more form has = (
    0,
    omega arith,
    record {
      no_form = none;
      within = omega arith;
      goes_on = (more, form, has);
      longest = λ below. absurd (let no : ⊥ = omega arith in no);
    },
  )

  -- the first word can't stand there
  pub refused : (w : Word) (words : List Word) → ((more : List Word) (form : Form) → R (w ∷ more) form → ⊥)
      → (more : List Word) (form : Form) → R more form → Judged base R (w ∷ words) (Err base)
  refused w words none more form has = (
    0,
    omega arith,
    record {
      no_form = none words;
      within = omega arith;
      goes_on = (more, form, has);
      longest = λ below front. none front.0 front.1 front.2;
    },
  )
