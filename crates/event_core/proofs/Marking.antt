-- Flags that are raised one kind of page after the other.
use Rattle.std.proofs.Common.{◌≡◌, ◌∙◌, Bool, true, false, ◌||◌, refl, ap}

three : (c v q : Bool) → ((c || v) || q) ≡ (c || (v || q))
three true v q = refl
three false v q = refl

pub marked : (o y z c v q : Bool) → y ≡ z → ((((o || y) || c) || v) || q) ≡ (o || (z || (c || (v || q))))
marked true y z c v q e = refl
marked false true z c v q e = ap (λ b. b || (c || (v || q))) e
marked false false z c v q e = three c v q ∙ ap (λ b. b || (c || (v || q))) e
