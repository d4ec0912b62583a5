use Rattle.std.proofs.Common.{subst, sym}
use Rattle.client.proofs.Following.{sends_by}
use Rattle.client.specs.Following.{IsPiece}

pub returns : Rattle.client.proofs.client.Client.send_next.Goals.returns
returns c =
    sends_by c.args.request.now c.deref.result.now _ _ c.push.result
    (subst (IsPiece c.args.request.now) (sym c.deref.ensures.value) (c.in_ok-piece.ensures c.requires.next.natural c.requires.next.in_range))
    c.push.ensures
