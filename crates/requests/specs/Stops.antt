-- Why a list is not made to its end, apart from its bytes.
use Rattle.std.specs.Prelude.{Bool, true, false}
use Rattle.requests.specs.declared.stops.Stop.{Stop}
use Rattle.requests.specs.declared.stops.Stop.TheVariants.{Broken, Io}

-- Its text could not be made.
abbrev pub is_io : Stop → Bool
is_io Broken = false
is_io (Io e) = true
