-- First words.
use Rattle.std.proofs.Common.{◌≡◌, false, List, [], ◌∷◌, sym, ap, ◌∙◌, true≢false}
use Rattle.std.specs.Str.{bytes_eq}
use Rattle.command_words.specs.Forms.{Word}
use Rattle.command_words.proofs.Names.{bytes_eq-self}

pub head : List Word → Word
head [] = []
head (w ∷ words) = w

pub tail : List Word → List Word
tail [] = []
tail (w ∷ words) = words

pub same_head : (v w : Word) (vs ws : List Word) → v ∷ vs ≡ w ∷ ws → v ≡ w
unfolding head
same_head v w vs ws e = ap head e

pub same_tail : (v w : Word) (vs ws : List Word) → v ∷ vs ≡ w ∷ ws → vs ≡ ws
unfolding tail
same_tail v w vs ws e = ap tail e

-- words of which the test says that they differ
pub unlike : (v w : Word) → bytes_eq v w ≡ false → v ≡ w → ⊥
unlike v w differs same = true≢false (sym (ap (λ (x : Word). bytes_eq x w) same ∙ bytes_eq-self w) ∙ differs)
