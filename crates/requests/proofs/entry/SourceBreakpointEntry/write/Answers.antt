use Rattle.message_parts.proofs.Appending.{and_then, if_then, object_written}

pub returns : Rattle.requests.proofs.entry.SourceBreakpointEntry.write.Goals.returns
returns c =
    object_written c.end_object.result c.in_ok-begin_object.ensures
    (if_then _ _ c.args.self.now.condition c.in_ok-part_if.ensures
    (if_then _ _ c.args.self.now.hit_condition c.in_ok-part_if-2.ensures
    (and_then c.in_ok-part.ensures c.in_ok-part_if-3.ensures)))
    c.end_object.ensures
