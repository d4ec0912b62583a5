pub returns-clause-past : Rattle.mirror.proofs.mirror.Mirror.feed.Goals.returns-clause-past
returns-clause-past c = Rattle.mirror.proofs.Streaming.feeds_past c.args.self.now _ c.args.piece.now _ c.take.ensures.kept
