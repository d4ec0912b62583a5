-- The last numbers that a session gives (`ProtocolMessage.seq`; "Lifetime of Objects References").
use Rattle.std.specs.Prelude.{ℕ, Bool, ◌&&◌, nat_le, ◌^◌}
use Rattle.session.specs.declared.limits.Limits.{Limits}

-- whether the number is one from 1 to the greatest
abbrev pub is_within : ℕ → ℕ → Bool
is_within greatest n = nat_le 1 n && nat_le n greatest

-- numbers of messages and references are what the protocol's schema takes as a positive integer
abbrev pub greatest_limits : Limits
greatest_limits = record { last_seq = 2147483647; last_ref = 2147483647; last_retired = 2 ^ 62 }

-- whether a session may have these limits
abbrev pub are_limits : Limits → Bool
are_limits l = is_within greatest_limits.last_seq l.last_seq && is_within greatest_limits.last_ref l.last_ref
    && is_within greatest_limits.last_retired l.last_retired
