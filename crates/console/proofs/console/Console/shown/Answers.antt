use Rattle.std.specs.Prelude.{string_bytes}
use Rattle.console.proofs.Following.{fills, shows}
use Rattle.console.proofs.console.Console.shown.Goals as goal

pub returns-clause-pieces : goal.returns-clause-pieces
returns-clause-pieces c =
    fills c.args.self.now.link (string_bytes c.args.self.now.path) c.as_bytes.result.now _ _ c.take-parts.result.items _ c.mirror.ensures.mirror
    c.as_bytes.ensures.value c.take-parts.ensures.parts c.filled.ensures

pub returns-clause-is_true : goal.returns-clause-is_true
returns-clause-is_true c =
    shows c.args.self.now.link (string_bytes c.args.self.now.path) _ _ c.mirror.ensures.follows (returns-clause-pieces c)
