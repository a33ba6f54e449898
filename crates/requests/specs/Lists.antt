-- What the first two bytes of a list name.
use Rattle.std.specs.Prelude.{ℕ, Result, Ok, Err, ◌==◌, if◌then◌else◌}
use Rattle.requests.specs.declared.lists.Base.{Base}
use Rattle.requests.specs.declared.lists.Base.TheVariants.{Neat, Mesi}
use Rattle.requests.specs.declared.lists.Buffers.{Buffers}
use Rattle.requests.specs.declared.lists.Buffers.TheVariants.{Zero, One, Two}
use Rattle.requests.specs.declared.stops.Stop.{Stop}
use Rattle.requests.specs.declared.stops.Stop.TheVariants.{Broken}

-- The protocol of a number.
abbrev pub base_named : ℕ → Result Base Stop
base_named n = if n == 1 then Ok Neat else if n == 2 then Ok Mesi else Err Broken

-- So many buffers, up to two.
abbrev pub buffers_named : ℕ → Result Buffers Stop
buffers_named n = if n == 0 then Ok Zero else if n == 1 then Ok One else if n == 2 then Ok Two else Err Broken
