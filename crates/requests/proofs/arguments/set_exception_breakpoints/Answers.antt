use Rattle.message_parts.proofs.Appending.{array_written, member_if_written, no_item}

pub returns : Rattle.requests.proofs.arguments.set_exception_breakpoints.Goals.returns
returns c =
    member_if_written _ _ c.end_array.result c.in_ok-key.ensures
    (array_written c.end_array.result c.in_ok-begin_array.ensures no_item c.end_array.ensures)
