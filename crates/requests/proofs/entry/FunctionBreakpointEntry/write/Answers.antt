use Rattle.message_parts.proofs.Appending.{if_then, object_written}

pub returns : Rattle.requests.proofs.entry.FunctionBreakpointEntry.write.Goals.returns
returns c =
    object_written c.end_object.result c.in_ok-begin_object.ensures
    (if_then _ _ c.args.self.now.condition c.in_ok-part_if.ensures
    (if_then _ _ c.args.self.now.hit_condition c.in_ok-part_if-2.ensures c.in_ok-part.ensures))
    c.end_object.ensures
