use Rattle.std.proofs.Common.{arith, length, ap, ◌∙◌, ◌≤◌}

pub returns : Rattle.test_watch_events.proofs.path_of.Goals.returns
returns c =
    let long = ap length (c.from_string.ensures.value ∙ c.in_ok-own.ensures.cases) in
    let value = ap length c.as_bytes.ensures.value in
    let len = c.as_bytes.ensures.len in
    let few = c.if-as_bytes-gt-LONGEST_PATH.false in
    let fits : length c.from_string.result ≤ 1048576 = grind (arith, long, value, len, few) in
    (c.from_string.ensures.utf8, fits)
