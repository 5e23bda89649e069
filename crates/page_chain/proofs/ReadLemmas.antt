-- Reading a page.
use Rattle.std.proofs.Common.{◌≡◌, ℕ, ◌+◌, ◌-◌, ◌*◌, min, Bool, true, false, nat_eq, List, length, take, drop, refl, sym, ◌∙◌, ap, arith}
use Rattle.std.specs.Prelude.{IfSome, Some, None}
use Rattle.std.specs.Bool.{OnTrue}
use Rattle.std.specs.declared.option.Option.{Option}
use Rattle.std.proofs.lemmas.List.{take_all}
use Rattle.std.proofs.lemmas.Bool.Decides.{nat_tests}
use Rattle.afl_outside.specs.Disk.{ReadsAt}
use Rattle.page_chain.specs.Pages.{page_size, page_at, has_page}
use Rattle.page_chain.proofs.Kept.{size_is}

whole_there : (page at n : ℕ) (seen into : List ℕ) → at ≡ 4096 * page → length into ≡ page_size → ReadsAt seen at n into → nat_eq n (length into) ≡ has_page page_size seen page
whole_there page at n seen into place size read =
    let end : page_size * (page + 1) ≡ 4096 * (page + 1) = ap (λ (s : ℕ). s * (page + 1)) size_is in
    let fits : length into ≡ 4096 = size ∙ size_is in
    let most : n ≡ min (length into) (length seen - at) = read.most in
    grind (arith, nat_tests)

there : (page at n : ℕ) (seen into : List ℕ) → at ≡ 4096 * page → length into ≡ page_size → ReadsAt seen at n into → n ≡ length into → into ≡ page_at page_size seen page
there page at n seen into place size read all =
    let here : page_size * page ≡ at = ap (λ (s : ℕ). s * page) size_is ∙ sym place in
    sym (take_all n into (omega arith)) ∙ read.bytes ∙ ap (λ (m : ℕ). take m (drop at seen)) (all ∙ size) ∙ ap (λ (i : ℕ). take page_size (drop i seen)) (sym here)

pub whole_read : (page at n : ℕ) (o : Option (List ℕ)) (into : List ℕ) → at ≡ 4096 * page → length into ≡ page_size → IfSome o (λ seen. ReadsAt seen at n into)
    → IfSome o (λ seen. nat_eq n (length into) ≡ has_page page_size seen page)
whole_read page at n None into place size read = tt
whole_read page at n (Some seen) into place size read = whole_there page at n seen into place size read

pub page_read : (page at n : ℕ) (o : Option (List ℕ)) (into : List ℕ) → at ≡ 4096 * page → length into ≡ page_size → IfSome o (λ seen. ReadsAt seen at n into)
    → IfSome o (λ seen. OnTrue (nat_eq n (length into)) (into ≡ page_at page_size seen page))
page_read page at n None into place size read = tt
page_read page at n (Some seen) into place size read = on_true (nat_eq n (length into)) (λ is. there page at n seen into place size read (equal is))
  where
    on_true : (b : Bool) → (b ≡ true → into ≡ page_at page_size seen page) → OnTrue b (into ≡ page_at page_size seen page)
    on_true true f = f refl
    on_true false f = tt

    equal : nat_eq n (length into) ≡ true → n ≡ length into
    equal is = grind (arith, nat_tests)
