use Rattle.std.proofs.lemmas.Result.{on_ok_weaker}
use Rattle.message_parts.proofs.Appending.{if_then}

pub returns : Rattle.requests.proofs.arguments.disconnect.Goals.returns
returns c = on_ok_weaker c.truth_if-2.result (λ last. if_then _ _ c.args.a.now.suspend_debuggee c.in_ok-truth_if.ensures last) c.truth_if-2.ensures
