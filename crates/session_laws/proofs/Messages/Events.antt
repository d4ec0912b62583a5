-- What an editor is told without a request, and that a program cannot be assembled, can be read.
use Rattle.session_laws.proofs.Messages.Common.{[], AreTexts, arith, AsmError, AssemblyFailed, codes, decimal, error_text, event_texts, Exception, HasOutcomeTexts, IfSome, IsUtf8-append, kind_name, length, length-append, Limit, List, list_all-append, log_event, Met, most_of_event, most_of_outcome, None, Option, Outcome, output_event, refl, Refused, said, signed_decimal, Some, Start, stop_event, text, text_of, texts_if, texts_of, Told, whole, Why, written_length_if, ℕ, ℤ, ◌*◌, ◌++◌, ◌+◌, ◌∷◌, ◌≤◌}
use Rattle.assembler.specs.declared.error.AsmErrorKind.{AsmErrorKind}
use Rattle.assembler.specs.declared.error.AsmErrorKind.TheVariants as kind
use Rattle.json.proofs.Printed.Utf8.{IsUtf8-are_ascii}
use Rattle.rv32i.specs.Causes.{cause_text}
use Rattle.rv32i.specs.declared.stepped.Cause.{Cause}
use Rattle.rv32i.specs.declared.stepped.Cause.TheVariants as cause
use Rattle.stepping.specs.declared.tick.Reason.{Reason}
use Rattle.session_laws.proofs.Messages.Bodies.{written_few}
use Rattle.session_laws.proofs.Messages.Programs.{IsShortText}
use Rattle.session_laws.proofs.Messages.Words.{IsPlainWithin, decimal_plain, digits_few, signed_few, signed_plain, spelled, utf8_of, written_of}

abbrev pub IsReadableEvent : Told → Type 0
IsReadableEvent e = AreTexts (event_texts e) × (most_of_event e ≤ 4000000000)

abbrev pub IsReadableOutcome : Outcome → Type 0
IsReadableOutcome outcome = HasOutcomeTexts outcome × (most_of_outcome outcome ≤ 4000000000)

-- ---- stops

cause_plain : (c : Cause) → IsPlainWithin 40 (cause_text c)
cause_plain cause.FetchOutside = spelled 40 _ refl
cause_plain _ = spelled 40 _ refl

met_plain : (r : Reason) → IfSome (text_of (Met r)) (IsPlainWithin 40)
met_plain (Exception c) = cause_plain c
met_plain Start = spelled 40 (codes "start of history") refl
met_plain _ = tt

-- the text of a stop, if it has one
why_plain : (reason : Why) → IfSome (text_of reason) (IsPlainWithin 40)
why_plain Limit = spelled 40 (codes "instruction limit") refl
why_plain (Met r) = met_plain r
why_plain _ = tt

no_texts : (ids : List ℕ) (others : List (List ℕ)) → AreTexts others → AreTexts (texts_of whole.texts ids ++ others)
no_texts [] others h = h
no_texts (id ∷ ids) others h = no_texts ids others h

pub stop_readable : (reason : Why) (ids : List ℕ) → length ids ≤ 3072 → IsReadableEvent (stop_event reason ids)
stop_readable reason ids few = by (text_of reason) (why_plain reason) where
  by : (said : Option (List ℕ)) → IfSome said (IsPlainWithin 40)
      → AreTexts (texts_of whole.texts ids ++ (texts_if text.texts said ++ []))
      × (1000 + 21 * length ids + written_length_if said ≤ 4000000000)
  by None h = (no_texts ids [] tt, omega (arith, few))
  by (Some said) h = (no_texts ids (said ∷ []) (utf8_of h, tt), omega (arith, few, written_of h))

-- ---- output

-- what a logpoint says, on a line
pub log_readable : (text : List ℕ) → IsShortText text → IsReadableEvent (log_event text)
log_readable text h = (
  (IsUtf8-append text (codes "\n") h.0 (IsUtf8-are_ascii (codes "\n") refl), tt),
  omega (arith, written_few (text ++ codes "\n") 1048577 (omega (arith, length-append text (codes "\n"), h.1))),
)

-- a number is a text as short, and told alike
pub number_readable : (number : ℤ) → IsReadableEvent (output_event number)
number_readable number =
    let digits : IsPlainWithin 65 (signed_decimal number) = record { plain = signed_plain number; few = signed_few number } in
    log_readable (signed_decimal number) (utf8_of digits, omega (arith, digits.few))

-- ---- a program with an error

kind_plain : (k : AsmErrorKind) → IsPlainWithin 20 (kind_name k)
kind_plain kind.NotUtf8 = spelled 20 _ refl
kind_plain _ = spelled 20 _ refl

pub error_readable : (error : AsmError) → IsReadableOutcome (Refused AssemblyFailed (Some (error_text error)))
error_readable error =
    let kind = kind_plain error.kind in
    let line : List ℕ = decimal error.line ++ codes ": " in
    let text : IsPlainWithin 91 (error_text error) = record {
      plain = simp (list_all-append, decimal_plain, kind.plain);
      few =
          omega (
            arith,
            kind.few,
            digits_few 10 error.line,
            length-append line (kind_name error.kind),
            length-append (decimal error.line) (codes ": "),
          );
    } in
    (utf8_of text, omega (arith, written_of text))
