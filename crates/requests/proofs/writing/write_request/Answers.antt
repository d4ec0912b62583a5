use Rattle.std.proofs.Common.{◌∙◌}
use Rattle.message_parts.proofs.Printing.{Holds-Appends, compact_text-Holds, json_of-Holds}
use Rattle.requests.proofs.Meanings.{depth-request_data, incoming_of-request_data, is_ordered-request_data}
use Rattle.requests.specs.Requests.{request_data}
use Rattle.requests.proofs.writing.write_request.Goals as goal

pub returns-clause-text : goal.returns-clause-text
returns-clause-text c =
    let empty = c.new-out.ensures.before ∙ c.in_ok-with_capacity.ensures.items in
    compact_text-Holds _ _ (request_data c.args.seq c.args.command.now) (Holds-Appends _ _ _ _ empty c.new-out.ensures.tokens c.in_ok-write.ensures.appends c.into_inner.ensures.items)

pub returns-clause-value : goal.returns-clause-value
returns-clause-value c =
    let empty = c.new-out.ensures.before ∙ c.in_ok-with_capacity.ensures.items in
    let all = Holds-Appends _ _ _ _ empty c.new-out.ensures.tokens c.in_ok-write.ensures.appends c.into_inner.ensures.items in
    json_of-Holds _ _ _ all c.into_inner.ensures.reads_back c.into_inner.ensures.utf8 c.in_ok-write.ensures.small
    (is_ordered-request_data c.args.seq c.args.command.now) (depth-request_data c.args.seq c.args.command.now)

pub returns-clause-read : goal.returns-clause-read
returns-clause-read c =
    let empty = c.new-out.ensures.before ∙ c.in_ok-with_capacity.ensures.items in
    let all = Holds-Appends _ _ _ _ empty c.new-out.ensures.tokens c.in_ok-write.ensures.appends c.into_inner.ensures.items in
    let value = json_of-Holds _ _ _ all c.into_inner.ensures.reads_back c.into_inner.ensures.utf8 c.in_ok-write.ensures.small
    (is_ordered-request_data c.args.seq c.args.command.now) (depth-request_data c.args.seq c.args.command.now) in
    λ small in_range. incoming_of-request_data _ c.args.seq c.args.command.now small in_range value
