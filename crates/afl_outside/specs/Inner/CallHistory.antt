-- The calls of a disk, for contracts alone.
use Rattle.std.specs.Prelude.{List, [], ◌∷◌, ◌++◌}
use Rattle.afl_outside.specs.declared.in_memory.device_call.DeviceCall.{DeviceCall}
use Rattle.afl_outside.specs.declared.in_memory.call_history.Calls.{Calls, Nothing, After'}

-- in order
abbrev pub calls_in : Calls → List DeviceCall
calls_in Nothing = []
calls_in (After' marker before call) = calls_in before ++ call ∷ []
