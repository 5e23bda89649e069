-- The acts among events, by their parts.
use Rattle.std.proofs.Common.{◌≡◌, ◌∙◌, List, [], ◌∷◌, ◌++◌, refl, ap, sym, append_assoc}
use Rattle.store_state.specs.declared.state.event.Event.TheVariants.{Entered, Acknowledged, Noted}
use Rattle.session_answers.specs.Acts.{Act, acts_in, acts_of_entry, acts_of_note}
use Rattle.session_answers.specs.RepliesLaws.{ActsJoin}

behind : (front acts joined later : List Act) → joined ≡ acts ++ later → front ++ joined ≡ (front ++ acts) ++ later
behind front acts joined later e = ap (λ (all : List Act). front ++ all) e ∙ sym (append_assoc front acts later)

pub acts_join : ActsJoin
acts_join [] later = refl
acts_join (Entered entry ∷ first) later =
    behind (acts_of_entry entry) (acts_in first) (acts_in (first ++ later)) (acts_in later) (acts_join first later)
acts_join (Acknowledged entry moment directory ∷ first) later =
    behind (acts_of_entry entry) (acts_in first) (acts_in (first ++ later)) (acts_in later) (acts_join first later)
acts_join (Noted note ∷ first) later =
    behind (acts_of_note note.kind) (acts_in first) (acts_in (first ++ later)) (acts_in later) (acts_join first later)
