-- Each message can be read: its texts are UTF-8, and it is written in fewer bytes than a mirror reads.
use Rattle.session_laws.proofs.Messages.Common.{arith, Beginning, get_or, Happened, HasPath, length, life_of, List, MessagesAreReadable, MessagesAreShort, most_bytes, Reached, Said, TextsAreUtf8, ◌<◌, ◌≤◌}
use Rattle.replies.specs.Messages.{text_of as text_said}
use Rattle.session_laws.proofs.Proper.{answers_are_proper}
use Rattle.text_laws.proofs.Lengths.{texts_are_bounded}
use Rattle.session_laws.proofs.Messages.Numbered.{in_range}
use Rattle.session_laws.proofs.Messages.Sessions.{all_readable}

pub texts_are_utf8 : (from : Beginning) (events : List Happened) → HasPath from → TextsAreUtf8 (Reached from events)
texts_are_utf8 from events path c k d below = (all_readable from events path c k d below).0

pub messages_are_short : (from : Beginning) (events : List Happened) → HasPath from → MessagesAreShort (Reached from events)
messages_are_short from events path c k d below =
    let m : Said = get_or (life_of c (Reached from events)).said k d in
    let numbers = in_range from events c in
    let number = numbers.all k d below in
    let most : length (text_said m.seq m.message) ≤ most_bytes m.message =
    texts_are_bounded m.seq m.message (number.0, omega (arith, number.1, numbers.few)) (answers_are_proper from events c k d below) in
    let fits : most_bytes m.message < 4294967295 = (all_readable from events path c k d below).1 in omega (arith, most, fits)

pub messages_are_readable : (from : Beginning) (events : List Happened) → HasPath from → MessagesAreReadable (Reached from events)
messages_are_readable from events path c k d below =
    (texts_are_utf8 from events path c k d below, messages_are_short from events path c k d below)
