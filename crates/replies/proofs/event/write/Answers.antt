use Rattle.replies.proofs.Common.{and_then, event_body, if_then, object_written}

pub returns : Rattle.replies.proofs.event.write.Goals.returns
returns c =
    let name = rw c.name.ensures at c.in_ok-text.ensures in
    object_written c.end_object.result c.in_ok-begin_object.ensures
    (if_then _ _ (event_body c.args.event.now) c.in_ok-write_body.ensures
    (and_then name (and_then c.in_ok-number.ensures c.in_ok-text-2.ensures))) c.end_object.ensures
