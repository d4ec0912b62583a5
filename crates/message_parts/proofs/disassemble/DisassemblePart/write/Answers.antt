use Rattle.message_parts.proofs.Appending.{object_written}

pub returns : Rattle.message_parts.proofs.disassemble.DisassemblePart.write.Goals.returns
returns c =
    object_written c.end_object.result c.in_ok-begin_object.ensures c.in_ok-part.ensures c.end_object.ensures
