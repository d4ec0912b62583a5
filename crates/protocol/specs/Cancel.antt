-- The request `cancel` (`CancelRequest`): what its arguments mean.
--
-- The editor is no longer interested in the result of an earlier request, and may name that request by
-- its number. Where it doesn't, no request is named, which is not the same as request 0. The schema
-- says no more of `requestId` than that it is an integer, so a number below 0 may stand there too,
-- though no request has it. All else that the editor says, `progressId` too, is not looked at.
use Rattle.std.specs.Prelude.{◌≡◌, Option, Some, None, pos, codes, refl}
use Rattle.serde_json.specs.Data.{number, string, unsigned, Members, no_members, member}
use Rattle.protocol.specs.Properties.{◌>>=◌, property, integer}
use Rattle.protocol.specs.Arguments.{optional}
use Rattle.protocol.specs.declared.cancel.CancelArguments.{CancelArguments}
use Rattle.protocol.specs.declared.cancel.TheConstants.{NAME, REQUEST_ID}
use Rattle.protocol.specs.declared.command.Command.TheVariants as command
use Rattle.protocol.specs.Rows.{Row, row}

-- the arguments; None where the request's number is there and is no integer
abbrev pub cancel_arguments : Members → Option CancelArguments
cancel_arguments members = do
  request ← optional integer (property REQUEST_ID.now members)
  Some (record { request_id = request })

-- the request
abbrev pub cancel_request : Row
cancel_request = row NAME.now cancel_arguments (λ a. command.Cancel a)

request_8 : cancel_arguments (member (codes "requestId") (number (unsigned 8)) no_members)
    ≡ Some (record { request_id = Some (pos 8) })
request_8 = refl

no_request : cancel_arguments no_members ≡ Some (record { request_id = None })
no_request = refl

a_progress_is_no_request :
    cancel_arguments (member (codes "progressId") (string (codes "8")) no_members)
    ≡ Some (record { request_id = None })
a_progress_is_no_request = refl

a_text_is_no_number :
    cancel_arguments (member (codes "requestId") (string (codes "8")) no_members) ≡ None
a_text_is_no_number = refl
