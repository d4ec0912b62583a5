use Rattle.replies.proofs.Common.{and_then, body_data, if_then, object_written}

pub returns : Rattle.replies.proofs.writing.success.Goals.returns
returns c =
    object_written c.end_object.result c.in_ok-begin_object.ensures
    (if_then _ _ (body_data c.args.body.now) c.in_ok-write_body.ensures
    (and_then c.in_ok-text.ensures c.in_ok-last_members.ensures)) c.end_object.ensures
