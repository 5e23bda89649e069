-- Where a device and scripts stand.
use Rattle.std.proofs.Common.{◌≡◌, ◌+◌, ◌≤◌, List, ◌∷◌, length, drop, ap, ◌∙◌, arith, length-append, drop_at}
use Rattle.std.specs.Prelude.{slice_get, codes, flat_map}
use Rattle.command_words.specs.Forms.{Word, setting_words}
use Rattle.command_words.specs.Laws.{InitsNameTheirDevice, RunsNameTheirScripts, FormsKeepTheirPlaces}

init_place : InitsNameTheirDevice
init_place words init = ap (λ (l : List Word). slice_get l 1) init.spelled

run_places : RunsNameTheirScripts
run_places words workers pages history printing first run =
    let front : List Word = codes "run" ∷ run.device ∷ flat_map setting_words run.settings in
    let place : first ≡ 2 + length (flat_map setting_words run.settings) = run.place in
    let long : length front ≡ first = omega arith in
    let all : length words ≡ length front + length run.scripts = ap length run.spelled ∙ length-append front run.scripts in
    let some : 1 ≤ length run.scripts = run.some in (
      ap (λ (l : List Word). slice_get l 1) run.spelled,
      ap (λ (l : List Word). drop first l) run.spelled ∙ drop_at front run.scripts first long,
      omega arith,
    )

pub keep_places : FormsKeepTheirPlaces
keep_places = (init_place, run_places)
