use Rattle.transport.proofs.Common.{[], refl}

pub returns : Rattle.transport.proofs.inbox.Inbox.new.Goals.returns
returns c = rw c.new.ensures.kept (record {
  fed = [];
  has_heard = record { taken = []; limit = refl; stands = Rattle.framing.proofs.Pasts.nothing_stands _; given = refl };
  read = refl;
})
