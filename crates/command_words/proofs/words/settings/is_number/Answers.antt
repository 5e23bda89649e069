use Rattle.std.proofs.Common.{◌≡◌, ◌==◌, ◌≤◌, ℕ, List, false, length, sym, ap, subst, ◌∙◌}
use Rattle.std.specs.List.{list_all}
use Rattle.std.specs.Char.{is_ascii_digit}
use Rattle.command_words.proofs.Numbers.{number_sized}
use Rattle.command_words.proofs.words.settings.is_number.Goals as goal

pub returns-then-digits-le10 : goal.returns-then-digits-le10
returns-then-digits-le10 c =
    let same : c.as_bytes-digits.result.now ≡ c.args.word.now = c.as_bytes-digits.ensures.value in
    let some : (length c.args.word.now == 0) ≡ false = ap (λ (l : List ℕ). length l == 0) (sym same) ∙ sym c.is_empty.ensures ∙ c.if-digits-le10.true.0 in
    let most : length c.args.word.now ≤ 10 = subst (λ (l : List ℕ). length l ≤ 10) same c.if-digits-le10.true.1 in
    c.are_digits.ensures ∙ ap (list_all is_ascii_digit) same ∙ number_sized c.args.word.now some most
