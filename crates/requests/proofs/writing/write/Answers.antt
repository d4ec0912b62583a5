use Rattle.message_parts.proofs.Appending.{and_then, if_then, object_written}
use Rattle.requests.specs.Requests.{arguments_of}

pub returns : Rattle.requests.proofs.writing.write.Goals.returns
returns c =
    let name = rw c.name.ensures at c.in_ok-text.ensures in
    object_written c.end_object.result c.in_ok-begin_object.ensures
    (if_then _ _ (arguments_of c.args.command.now) c.in_ok-write_arguments.ensures
    (and_then name (and_then c.in_ok-number.ensures c.in_ok-text-2.ensures))) c.end_object.ensures
