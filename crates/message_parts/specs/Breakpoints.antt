-- Whether a breakpoint is set (DAP specification, `Breakpoint.verified`).
use Rattle.std.specs.Prelude.{Bool, Option, codes}
use Rattle.serde_json.specs.Data.{Data}
use Rattle.serde_json.specs.Find.{get, as_bool}
use Rattle.protocol.specs.Properties.{◌>>=◌}

abbrev pub is_verified : Data → Option Bool
is_verified value = get (codes "verified") value >>= as_bool
