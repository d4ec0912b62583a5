use Rattle.watch_command.proofs.Spoken.{piece_inside}

pub returns : Rattle.watch_command.proofs.stream.Stream.add_piece.Goals.returns
returns c =
    piece_inside c.args.number c.args.piece.now c.args.fault c.args.self.now _ c.feed.new.unframer c.add_bodies.new.unframer c.extend_from_slice.new.self.items
    c.args.text.now.items c.add_bodies.new.text.items c.add_closing.new.text.items c.self.view_is c.requires c.in_ok-extend_from_slice.ensures.items
    c.in_ok-feed.ensures c.in_ok-add_bodies.ensures.emptied c.in_ok-add_bodies.ensures.lines c.in_ok-add_closing.ensures
