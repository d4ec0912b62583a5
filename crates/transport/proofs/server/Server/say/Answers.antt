use Rattle.std.proofs.Common.{refl}
use Rattle.transport.proofs.Sending.{sent_whole}

pub returns-then-send_all-clause-writes : Rattle.transport.proofs.server.Server.say.Goals.returns-then-send_all-clause-writes
returns-then-send_all-clause-writes g c sound nothing =
    let w = sent_whole _ _ c.args.self.now.outbox c.queue.new.self c.send_all.new.self _ nothing c.in-Ok.ensures.ok
    c.if-send_all.ensures.prefix (c.if-send_all.ensures.all refl) in
    (w.0, w.1, sound)
