use Rattle.transport.proofs.Sending.{sends_on}

pub sending-preserved : Rattle.transport.proofs.outbox.Outbox.send_all.Goals.sending-preserved
sending-preserved g c = sends_on _ _ _ c.args.self.now c.sending.self c.send.new.self c.send.result c.sending.invariant c.send.ensures.sends
