use Rattle.std.proofs.Common.{◌∙◌}
use Rattle.message_parts.proofs.Printing.{Holds-Appends, compact_text-Holds, json_of-Holds}
use Rattle.replies.proofs.Values.{is_ordered-message_data, depth-message_data}
use Rattle.replies.proofs.writing.message.Goals as goal

pub returns-clause-text : goal.returns-clause-text
returns-clause-text c =
    let empty = c.new-out.ensures.before ∙ c.in_ok-with_capacity.ensures.items in
    compact_text-Holds _ _ _ (Holds-Appends _ _ _ _ empty c.new-out.ensures.tokens c.in_ok-write.ensures.appends c.into_inner.ensures.items)

pub returns-clause-value : goal.returns-clause-value
returns-clause-value c =
    let empty = c.new-out.ensures.before ∙ c.in_ok-with_capacity.ensures.items in
    let all = Holds-Appends _ _ _ _ empty c.new-out.ensures.tokens c.in_ok-write.ensures.appends c.into_inner.ensures.items in
    json_of-Holds _ _ _ all c.into_inner.ensures.reads_back c.into_inner.ensures.utf8 c.in_ok-write.ensures.small
    (is_ordered-message_data c.args.seq c.args.message.now) (depth-message_data c.args.seq c.args.message.now)
