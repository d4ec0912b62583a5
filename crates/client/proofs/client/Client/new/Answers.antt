use Rattle.std.proofs.Common.{refl}
use Rattle.session.specs.Begins.{beginning_of}
use Rattle.client.proofs.Following.{begins}

pub returns : Rattle.client.proofs.client.Client.new.Goals.returns
returns c =
    let b = c.in_ok-session.ensures in
    let from = beginning_of _ _ b.right b.image in (
      from,
      (
        refl,
        begins from c.in_ok-session.session c.connect.new.self c.new-2.result c.connect.result refl b.stands c.connect.ensures.stands
            c.connect.ensures.takes_none c.new-2.ensures,
      ),
    )
