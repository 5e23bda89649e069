-- The words behind the options: scripts, or where they stop being ones.
use Rattle.std.proofs.Common.{◌≡◌, ℕ, ◌+◌, ◌<◌, ◌≤◌, true, false, cond, not, ◌&&◌, Option, Some, Result, Ok, List, [], ◌∷◌, ◌++◌, length, get_or, take, drop, refl, sym, ap, subst, ◌∙◌, arith, append_assoc, append-nil, length-append, length-take-le, true≢false, lit≤}
use Rattle.std.specs.Prelude.{nat_lt}
use Rattle.std.proofs.lemmas.Bool.{and_parts, cond_both, ltb-true}
use Rattle.std.proofs.lemmas.List.{drop_more, take_more}
use Rattle.command_words.specs.declared.words.forms.Form.{Form}
use Rattle.command_words.specs.declared.words.settings.Settings.{Settings}
use Rattle.command_words.specs.Forms.{Word, is_dashed}
use Rattle.command_words.specs.Inner.Reading.{can_stand, is_taken, wrong_from, run_of, place_of, scripts_outcome}
use Rattle.command_words.proofs.Names.{Good, good_next, good_stands, fresh, good_fresh}
use Rattle.command_words.proofs.Places.{Judged, judged_step, judged_same, refused}

-- the words are the scripts behind some, with these options before them all
pub record AreScripts (device : Word) (settings : Settings) (before words : List Word) (form : Form) : Type 0 where
  pub some : 1 ≤ length (before ++ words)
  pub good : Good device (before ++ words)
  pub is : form ≡ run_of settings

module _ (device : Word) (settings : Settings) where
  at_first : (word : Word) (before words : List Word) (form : Form) → AreScripts device settings (before ++ word ∷ []) words form → AreScripts device settings before (word ∷ words) form
  at_first word before words form are =
      let same : (before ++ word ∷ []) ++ words ≡ before ++ word ∷ words = append_assoc before (word ∷ []) words in
      record {
        some = subst (λ (l : List Word). 1 ≤ length l) same are.some;
        good = subst (Good device) same are.good;
        is = are.is;
      }

  past_first : (word : Word) (before words : List Word) (form : Form) → AreScripts device settings before (word ∷ words) form → AreScripts device settings (before ++ word ∷ []) words form
  past_first word before words form are =
      let same : before ++ word ∷ words ≡ (before ++ word ∷ []) ++ words = sym (append_assoc before (word ∷ []) words) in
      record {
        some = subst (λ (l : List Word). 1 ≤ length l) same are.some;
        good = subst (Good device) same are.good;
        is = are.is;
      }

  -- words that make the scripts whole
  completion : List Word → List Word
  completion [] = fresh device ∷ []
  completion (word ∷ before) = []

  completes : (before : List Word) → Good device before → AreScripts device settings before (completion before) (run_of settings)
  unfolding completion
  completes [] good = record { some = lit≤ tt; good = good_fresh device; is = refl }
  completes (word ∷ before) good = record {
    some = omega (arith, length-append before []);
    good = subst (Good device) (sym (append-nil (word ∷ before))) good;
    is = refl;
  }

  scripts_end : (before : List Word) → Good device before → 1 ≤ length before + 0 → Judged (place_of settings + length before) (AreScripts device settings before) [] (Ok (run_of settings))
  scripts_end before good some = (
    record {
      some = omega (arith, length-append before []);
      good = subst (Good device) (sym (append-nil before)) good;
      is = refl;
    },
    λ other are. are.is,
  )

  pub scripts_judged : (words before : List Word) → Good device before → 1 ≤ length before + length words
      → Judged (place_of settings + length before) (AreScripts device settings before) words (scripts_outcome settings (wrong_from device before words))
  scripts_judged [] before good some = scripts_end before good some
  scripts_judged (word ∷ words) before good some =
      let base : ℕ = place_of settings + length before in
      let longer : length (before ++ word ∷ []) ≡ length before + 1 = length-append before (word ∷ []) in
      let next : place_of settings + length (before ++ word ∷ []) ≡ base + 1 = omega arith in
      let one : 1 ≤ length (before ++ word ∷ []) + length words = omega arith in
      let rest : Result Form ℕ = scripts_outcome settings (wrong_from device (before ++ word ∷ []) words) in
      let further : Good device (before ++ word ∷ []) → Judged (place_of settings + length (before ++ word ∷ [])) (AreScripts device settings (before ++ word ∷ [])) words rest = λ g. scripts_judged words (before ++ word ∷ []) g one in
      cond_both (can_stand device before word) (wrong_from device (before ++ word ∷ []) words) (Some (length before))
      (λ (o : Option ℕ). Judged base (AreScripts device settings before) (word ∷ words) (scripts_outcome settings o))
      (λ can. judged_step base (AreScripts device settings before) word words rest
      (judged_same (AreScripts device settings (before ++ word ∷ [])) (λ ws. AreScripts device settings before (word ∷ ws))
      (at_first word before) (past_first word before) (base + 1) words rest
      (subst (λ (n : ℕ). Judged n (AreScripts device settings (before ++ word ∷ [])) words rest) next (further (good_next device before word good can)))))
      (λ cannot. refused base (AreScripts device settings before) word words
      (λ more form are. true≢false (sym (good_stands device before word more are.good) ∙ cannot))
      (completion before) (run_of settings) (completes before good))

-- A loop over scripts comes to the next one: shown is that script, and before are those before it.
module _ (device : Word) (words before : List Word) (i : ℕ) (item shown : Word) (within : i < length words) (is : item ≡ get_or words i item)
    (fronts : before ≡ take i words) (shows : shown ≡ item) (so_far : wrong_from device (take i words) (drop i words) ≡ wrong_from device [] words) where
  can_item : can_stand device (take i words) item ≡ can_stand device before shown
  can_item = ap (can_stand device (take i words)) (sym shows) ∙ ap (λ (l : List Word). can_stand device l shown) (sym fronts)

  from_item : cond (can_stand device (take i words) item) (wrong_from device (take i words ++ item ∷ []) (drop (i + 1) words)) (Some (length (take i words)))
      ≡ wrong_from device [] words
  from_item = sym (ap (wrong_from device (take i words)) (drop_more words i item within ∙ ap (λ (w : Word). w ∷ drop (i + 1) words) (sym is))) ∙ so_far

  pub wrong_next : can_stand device before shown ≡ true → wrong_from device (take (i + 1) words) (drop (i + 1) words) ≡ wrong_from device [] words
  wrong_next can =
      ap (λ (l : List Word). wrong_from device l (drop (i + 1) words)) (take_more words i item within ∙ ap (λ (w : Word). take i words ++ w ∷ []) (sym is))
      ∙ sym (ap (λ b. cond b (wrong_from device (take i words ++ item ∷ []) (drop (i + 1) words)) (Some (length (take i words)))) (can_item ∙ can))
      ∙ from_item

  pub wrong_here : can_stand device before shown ≡ false → Some i ≡ wrong_from device [] words
  wrong_here cannot =
      ap Some (sym (length-take-le i words (omega (arith, within))))
      ∙ sym (ap (λ b. cond b (wrong_from device (take i words ++ item ∷ []) (drop (i + 1) words)) (Some (length (take i words)))) (can_item ∙ cannot))
      ∙ from_item

  pub still_few : can_stand device before shown ≡ true → i + 1 ≤ 16
  still_few can =
      let early = (and_parts (nat_lt (length before) 16 && not (is_dashed shown)) (not (is_taken device before shown)) can).0 in
      let below = ltb-true (length before) 16 (and_parts (nat_lt (length before) 16) (not (is_dashed shown)) early).0 in
      let long = ap length fronts ∙ length-take-le i words (omega (arith, within)) in
      omega (arith, below, long)
