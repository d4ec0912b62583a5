use Rattle.client.proofs.Following.{pushes_inside}

pub returns : Rattle.client.proofs.client.Client.push.Goals.returns
returns c =
    rw c.sending.ensures
    (pushes_inside _ _ c.self.view_is c.args.request.now c.args.piece.now c.requires.next c.requires.piece c.tell.new.mirror c.recv.new.self
    c.in_ok-tell.ensures.ok c.recv.result c.recv.ensures.stands c.recv.ensures.err)
