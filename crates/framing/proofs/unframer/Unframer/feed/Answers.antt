use Rattle.framing.proofs.Common.{Feeds, rules}
use Rattle.framing.proofs.Pasts.{taking}

pub returns-clause-stream : Rattle.framing.proofs.unframer.Unframer.feed.Goals.returns-clause-stream
returns-clause-stream c =
    let fed : Feeds {T = Unit {0}} c.args.self.now c.args.piece.now c.feed.result c.feed.new.self = search rules in
    taking (Unit {0}) c.args.self.now c.args.piece.now c.feed.result c.feed.new.self fed
