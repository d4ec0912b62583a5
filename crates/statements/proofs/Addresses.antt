-- Operands that are addresses: a register in brackets after an offset, and the parts of a label's address.
use Rattle.statements.proofs.Common.{[], Access, access_by, access_in, access_with, all_append, AllBlank, and_right, and_then, ap, append_assoc, arith, bare, base_by, begins_blank, begins_low, between, Bits, bits_low, blanks_go, bracketed, closed, codes, cond-false, cond-true, drop_at, false, Immediate, immediate_in, in_brackets, in_spaced_brackets, is_blank, is_name, is_name_byte, is_offset, is_quiet, is_unclosed, IsInner, IsOperand, JumpAndLinkRegister, label_in, length, length-append, line_of, LineError, List, Load, Low, low_by, low_in, low_of, lower, Mnemonic, mnemonic_of, Names, nat_tests, None, NoOffsetIsZero, not, Ok, or_bad, Part, part_by, part_low, PartsOfAddresses, plain_access, read, refl, register_in, RegistersHaveNames, Result, Said, SameAddress, Some, stated_alone, Statement, stating, Store, store_lower, stripped, sym, take_at, takes_address, trimmed, true, with_three, with_two, without_leading_blanks, ℕ, ◌++◌, ◌-◌, ◌∙◌, ◌∷◌, ◌≡◌}
use Rattle.statements.specs.declared.operations.ImmediateOperation.{ImmediateOperation}
use Rattle.statements.proofs.AnyOperands.{blank_quiet, long_is, name_operand, operand_begins, operand_long, register_operand, three_means, three_ok, two_means, two_ok}
use Rattle.statements.proofs.Dividing.{unempty}
use Rattle.statements.proofs.Numerals.{lower_short, parts_add, upper_whole}
use Rattle.statements.proofs.Registers.{name_bytes, register_named}
use Rattle.statements.proofs.Runs.{Ends, ends_after, lacks, lacks_byte, parts_join}
use Rattle.statements.specs.declared.operations.ImmediateOperation.TheVariants as m
use Rattle.statements.specs.declared.statement.Statement.TheVariants as say

-- ---- brackets

-- the blanks before an opening bracket, after it, and before the closing one
abbrev pub Blanks : Type 0
Blanks = (p : List ℕ) × (q : List ℕ) × (s : List ℕ) × AllBlank p × AllBlank q × AllBlank s

abbrev pub no_blanks : Blanks
no_blanks = ([], [], [], refl, refl, refl)

abbrev pub enclosed : Blanks → List ℕ → List ℕ
enclosed b text = in_spaced_brackets b.0 b.1 text b.2

-- what stands before a closing bracket
closed_is : (s : List ℕ) → closed (s ++ 41 ∷ []) ≡ Some (trimmed s)
closed_is s =
    let e : length s ≡ length (s ++ 41 ∷ []) - 1 = omega (arith, length-append s (41 ∷ [])) in
    rw (drop_at s (41 ∷ []) _ e, take_at s (41 ∷ []) _ e) refl

closed_spaced : (b : Blanks) (r : List ℕ) → trimmed r ≡ r → closed (b.1 ++ (r ++ (b.2 ++ 41 ∷ []))) ≡ Some r
closed_spaced (p, q, s, a, b, c) r h =
    let e : q ++ (r ++ (s ++ 41 ∷ [])) ≡ ((q ++ r) ++ s) ++ 41 ∷ [] = simp append_assoc in
    ap closed e ∙ closed_is ((q ++ r) ++ s) ∙ ap (λ t. Some t) (between q r s b c h)

-- the same after blanks and an opening bracket
bracketed_spaced : (b : Blanks) (r : List ℕ) → trimmed r ≡ r → bracketed (without_leading_blanks (enclosed b r)) ≡ Some r
bracketed_spaced b r h = ap bracketed (blanks_go b.0 (40 ∷ (b.1 ++ (r ++ (b.2 ++ 41 ∷ [])))) b.3) ∙ closed_spaced b r h

-- ---- operands that end with brackets

enclosed_quiet : (b : Blanks) (r : List ℕ) → is_quiet r ≡ true → is_quiet (enclosed b r) ≡ true
enclosed_quiet (p, q, s, a, b, c) r n =
    all_append _ p _ (blank_quiet p a) (all_append _ q _ (blank_quiet q b) (all_append _ r _ n (all_append _ s (41 ∷ []) (blank_quiet s c) refl)))

pub enclosed_operand : (prefix : List ℕ) (b : Blanks) (r : List ℕ) → begins_blank (prefix ++ enclosed b r) ≡ false → is_quiet prefix ≡ true
    → is_quiet r ≡ true → IsOperand (prefix ++ enclosed b r)
enclosed_operand prefix b r n k h =
    let text : List ℕ = prefix ++ enclosed b r in
    let e : Ends text = ends_after prefix _ (ends_after b.0 _ (ends_after (40 ∷ []) _ (ends_after b.1 _
    (ends_after r _ (ends_after b.2 (41 ∷ []) (refl, omega arith)))))) in
    record { some = long_is text e.1; bare = bare text n e.0; quiet = all_append _ prefix (enclosed b r) k (enclosed_quiet b r h) }

-- ---- what addresses they are

-- an operand, and the address that it is, right or wrong
abbrev pub IsAddress : List ℕ → Result Access LineError → Type 0
IsAddress text value = IsOperand text × (access_in text ≡ value)

-- an offset with blanks and a bracket after it does not begin with `%lo` either
no_low : (i p more : List ℕ) → is_offset i ≡ true → AllBlank p → stripped (codes "%lo") (i ++ (p ++ 40 ∷ more)) ≡ None
no_low i [] more u a = grind (arith, nat_tests)
no_low i (b ∷ p) more u a = grind (arith, nat_tests)

-- a register in brackets after an offset
pub plain_address : (i r : List ℕ) (b : Blanks) → IsOperand i → is_offset i ≡ true → IsInner r
    → IsAddress (i ++ enclosed b r) (access_with (bits_low (immediate_in i)) (register_in r))
plain_address i r (p, q, s, a, b, c) o u n =
    let after : List ℕ = q ++ (r ++ (s ++ 41 ∷ [])) in
    let text : List ℕ = i ++ (p ++ 40 ∷ after) in
    let unopened : lacks 40 (i ++ p) ≡ true = all_append _ i p (and_right (not (begins_low i)) _ u) (lacks_byte is_blank 40 p refl a) in (
      enclosed_operand i (p, q, s, a, b, c) r (operand_begins i (p ++ 40 ∷ after) o) o.quiet n.quiet,
      ap (access_by text) (no_low i p after u a) ∙ rw (← append_assoc i p (40 ∷ after), parts_join 40 (i ++ p) after unopened)
          (rw (between [] i p refl a o.bare, unempty i (operand_long i o.some), closed_spaced (p, q, s, a, b, c) r n.bare) refl),
    )

-- one alone
pub bare_address : (r q s : List ℕ) → AllBlank q → AllBlank s → IsInner r
    → IsAddress (in_spaced_brackets [] q r s) (access_with (Ok (Bits 0)) (register_in r))
bare_address r q s b c n = (
  enclosed_operand [] ([], q, s, refl, b, c) r refl refl n.quiet,
  ap plain_access (parts_join 40 [] (q ++ (r ++ (s ++ 41 ∷ []))) refl)
      ∙ ap (λ o. access_with (Ok (Bits 0)) (base_by o)) (closed_spaced ([], q, s, refl, b, c) r n.bare),
)

-- the lower bits of a label's address, and a register in brackets
pub part_address : (x r : List ℕ) (b c : Blanks) → IsInner x → is_unclosed x ≡ true → IsInner r
    → IsAddress (codes "%lo" ++ (enclosed b x ++ enclosed c r)) (access_with (part_low (label_in x)) (register_in r))
part_address x r (p, q, s, hp, hq, hs) c n u k =
    let tail : List ℕ = enclosed c r in
    let inner : List ℕ = (q ++ x) ++ s in
    let apart : in_spaced_brackets p q x s ++ tail ≡ p ++ 40 ∷ (inner ++ 41 ∷ tail) = simp append_assoc in
    let unclosed : lacks 41 inner ≡ true = all_append _ (q ++ x) s (all_append _ q x (lacks_byte is_blank 41 q refl hq) u)
    (lacks_byte is_blank 41 s refl hs) in (
      enclosed_operand (codes "%lo" ++ in_spaced_brackets p q x s) c r refl (enclosed_quiet (p, q, s, hp, hq, hs) x n.quiet) k.quiet,
      rw (
        apart,
        blanks_go p (40 ∷ (inner ++ 41 ∷ tail)) hp,
        parts_join 41 inner tail unclosed,
        between q x s hq hs n.bare,
        bracketed_spaced c r k.bare,
      ) refl,
    )

-- an operand, and the immediate that it is
abbrev pub IsLow : List ℕ → Result Low LineError → Type 0
IsLow text value = IsOperand text × (low_in text ≡ value)

pub low_part : (x : List ℕ) (b : Blanks) → IsInner x → IsLow (codes "%lo" ++ enclosed b x) (part_low (label_in x))
low_part x b n = (enclosed_operand (codes "%lo") b x refl refl n.quiet, ap (λ o. part_low (part_by o)) (bracketed_spaced b x n.bare))

pub low_number : (i : List ℕ) → begins_low i ≡ false → low_in i ≡ bits_low (immediate_in i)
low_number i u = ap (low_by i) (cond-false (begins_low i) _ _ u)

pub inner : {text : List ℕ} → IsOperand text → IsInner text
inner o = record { bare = o.bare; quiet = o.quiet }

-- ---- lines of a register and an address

-- what a mnemonic that takes them states
abbrev pub accessed : Mnemonic → ℕ → Access → Statement
accessed (Load op) r access = lower op r access.base access.offset
accessed (Store op) r access = store_lower op access.base r access.offset
accessed other r access = lower m.Jalr r access.base access.offset

pub address_means : (name : List ℕ) (mnemonic : Mnemonic) {register text : List ℕ} {value : Result Access LineError} {s : Said}
    → mnemonic_of name ≡ Some mnemonic → takes_address mnemonic ≡ true → IsOperand register → IsAddress text value
    → and_then (register_in register) (λ r. and_then value (λ access. Ok (accessed mnemonic r access))) ≡ s
    → read (with_two name register text) ≡ line_of [] (stating s)
address_means name (Load op) e t o a h = two_means name e o a.0 (rw a.1 h)
address_means name (Store op) e t o a h = two_means name e o a.0 (rw a.1 h)
address_means name JumpAndLinkRegister e t o a h = two_means name e o a.0 (rw a.1 h)
address_means name other e t o a h = let none : false ≡ true = t in cc

pub immediate_means : (name : List ℕ) {d s text : List ℕ} {op : ImmediateOperation} {value : Result Low LineError} {result : Said}
    → mnemonic_of name ≡ Some (Immediate op) → IsOperand d → IsOperand s → IsLow text value
    → and_then (register_in d) (λ rd. and_then (register_in s) (λ rs1. and_then value (λ imm. Ok (lower op rd rs1 imm)))) ≡ result
    → read (with_three name d s text) ≡ line_of [] (stating result)
immediate_means name e o p a h = three_means name e o p a.0 (rw a.1 h)

-- `lui` of a label's address
pub upper_means : (d x : List ℕ) (b : Blanks) {s : Said} → IsOperand d → IsInner x
    → and_then (register_in d) (λ rd. and_then (label_in x) (λ label. Ok (say.Upper rd label))) ≡ s
    → read (with_two (codes "lui") d (codes "%hi" ++ enclosed b x)) ≡ line_of [] (stating s)
upper_means d x b o n h =
    two_means (codes "lui") refl o (enclosed_operand (codes "%hi") b x refl refl n.quiet) (rw (bracketed_spaced b x n.bare) h)

pub same_address : {a b : List ℕ} {value : Result Access LineError} → IsAddress a value → IsAddress b value → SameAddress a b
same_address p q name register mnemonic e t o =
    address_means name mnemonic e t o p refl ∙ sym (address_means name mnemonic e t o q refl)

pub no_offset : NoOffsetIsZero
no_offset r h =
    same_address (enclosed_operand [] no_blanks r refl refl h, ap plain_access (parts_join 40 [] (r ++ 41 ∷ []) refl))
    (enclosed_operand (codes "0") no_blanks r refl refl h, ap plain_access (parts_join 40 (codes "0") (r ++ 41 ∷ []) refl))

-- ---- laws of labels

pub label_is : (x : List ℕ) → is_name x ≡ true → label_in x ≡ Ok x
label_is x h = cond-true (is_name x) (Ok x) _ h

pub register_is : {d : List ℕ} {r : ℕ} → Names d r → register_in d ≡ Ok r
register_is {d} {r} h = ap or_bad (register_named d r h)

abbrev pub access : Low → ℕ → Access
access low r = record { offset = low; base = r }

part_stated : (name x : List ℕ) (mnemonic : Mnemonic) {d s : List ℕ} {rd rs1 : ℕ} → mnemonic_of name ≡ Some mnemonic
    → takes_address mnemonic ≡ true → Names d rd → Names s rs1 → is_name x ≡ true
    → read (with_two name d (low_of x ++ in_brackets s)) ≡ stated_alone (accessed mnemonic rd (access (Part x) rs1))
part_stated name x mnemonic {s = s} {rs1 = rs1} e t n k h =
    let at : access_with (part_low (label_in x)) (register_in s) ≡ Ok (access (Part x) rs1) = rw (label_is x h, register_is k) in
    address_means name mnemonic e t (register_operand n) (part_address x s no_blanks no_blanks (inner (name_operand x h))
    (lacks_byte is_name_byte 41 x refl (name_bytes x h)) (inner (register_operand k))) (two_ok _ (register_is n) at)

pub address_parts : PartsOfAddresses
address_parts = record {
  upper = λ d x rd n h.
      upper_means d x no_blanks (register_operand n) (inner (name_operand x h)) (two_ok _ (register_is n) (label_is x h));
  immediate = λ name d s x op rd rs1 e n k h.
      immediate_means name e (register_operand n) (register_operand k) (low_part x no_blanks (inner (name_operand x h)))
      (three_ok _ (register_is n) (register_is k) (ap part_low (label_is x h)));
  load = λ name d s x op rd rs1 e n k h. part_stated name x (Load op) e refl n k h;
  jalr = λ d s x rd rs1 n k h. part_stated (codes "jalr") x JumpAndLinkRegister refl refl n k h;
  store = λ name t s x op rs2 rs1 e n k h. part_stated name x (Store op) e refl n k h;
  add_up = λ n l. (upper_whole n, lower_short n, parts_add n l);
}

-- an instruction of three registers
pub registers_named : RegistersHaveNames
registers_named name a b c op rd rs1 rs2 e n k l =
    three_means name e (register_operand n) (register_operand k) (register_operand l) (three_ok _ (register_is n) (register_is k) (register_is l))
