-- What a line says, where memory was left.
use Rattle.statements.proofs.Common.{ap, are_operands, Err, fields, if◌then◌else◌, is_name, labels_of, Line, line_of, LineError, List, mnemonic_of, NoMemory, None, Ok, Option, OrNoMemory, rest_of, Result, said, said_by, Some, Statement, statement_in, sym, trimmed, true, without_comment, ℕ, ◌≡◌}
use Rattle.statements.specs.Reading.{read}
use Rattle.statements.proofs.Registers.{named_text}

pub itself : {A : Type 0} (r s : Result A LineError) → r ≡ s → OrNoMemory r s
itself (Ok a) s h = sym h
itself (Err NoMemory) s h = tt
itself (Err error) s h = sym h

-- what a mnemonic that is a name says of operands that are not blank
pub said_named : (mnemonic name text : List ℕ) → Some name ≡ (if is_name mnemonic then Some mnemonic else None) → are_operands text ≡ true
    → said mnemonic text ≡ said_by (mnemonic_of name) text
said_named mnemonic name text h all =
    let n = named_text mnemonic name (is_name mnemonic) h in
    rw (n.0, all) (ap (λ w. said_by (mnemonic_of w) text) (sym n.1))

-- a line whose statement is that, or no memory was left
pub or_line : (labels : List (List ℕ)) (r s : Result (Option Statement) LineError) → OrNoMemory r s
    → OrNoMemory (line_of labels r) (line_of labels s)
or_line labels (Ok a) s h = ap (line_of labels) h
or_line labels (Err NoMemory) s h = tt
or_line labels (Err error) s h = ap (line_of labels) h

pub read_so : (line : List ℕ) (labels : List (List ℕ)) (rest : List ℕ) (r : Result (Option Statement) LineError)
    (result : Result Line LineError)
    → labels ≡ labels_of (fields 58 (without_comment line)) → rest ≡ rest_of (fields 58 (without_comment line))
    → OrNoMemory r (statement_in (trimmed rest)) → result ≡ line_of labels r → OrNoMemory result (read line)
unfolding read
read_so line labels rest r result e f h same = rw (same, ← e, ← f) (or_line labels r _ h)
