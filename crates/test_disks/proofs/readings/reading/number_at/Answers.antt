use Rattle.std.proofs.Common.{◌≡◌, List, IfOk, IsTrue, subst, sym}
use Rattle.arrayvec.specs.ArrayVec.{ArrayVec}
use Rattle.chunk_source.specs.Source.{is_among}
use Rattle.test_quiet.proofs.ReadLemmas.{among_at}
use Rattle.test_disks.proofs.readings.reading.number_at.Goals as goal

pub returns-in-Some : goal.returns-in-Some
returns-in-Some c = λ chunks listed.
    let same = subst (λ numbers. IfOk numbers (λ (ks : List (ArrayVec _)). ks ≡ chunks)) c.in-Ok.is listed in
    subst (λ (at : ArrayVec _). IsTrue (is_among at chunks)) (sym c.copy_numbers.ensures)
    (subst (λ (ks : List (ArrayVec _)). IsTrue (is_among c.in-Some.at.now ks)) same (among_at c.in-Ok.numbers c.args.place c.in-Some.at.now (sym c.in-Some.ensures.value)))
