use Rattle.std.proofs.Common.{◌≡◌, ℕ, ap, subst}
use Rattle.assembler.specs.Assembled.{assembled}
use Rattle.debuggee.specs.Programs.{just_loaded}
use Rattle.handlers.specs.Given.{Lent}
use Rattle.handlers.proofs.Launching.{loads_so}

pub returns : Rattle.handlers.proofs.requests.launch.loads.Goals.returns
returns c =
    let size : c.lent.inside.size ≡ c.args.lent.now.given.size = ap (λ (l : Lent). l.given.size) c.lent.view_is in
    let loaded = subst (λ (n : ℕ). c.in_ok-program.program ≡ just_loaded
    (assembled c.args.text.now) c.in_ok-path.path c.args.arguments.now.stop_on_entry n) size c.in_ok-program.ensures in
    loads_so c.args.lent.now.given c.args.lent.now.terms c.lent.inside.terms c.args.arguments.now c.args.text.now c.in_ok-program.program c.in_ok-path.path c.requires.right
    (ap (λ (l : Lent). l.terms) c.lent.view_is) c.in_ok-path.ensures loaded
