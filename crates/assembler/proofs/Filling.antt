-- Lines that are filled one by one.
use Rattle.assembler.proofs.Common.{[], and_then, ap, append-nil, append_assoc, AreParts, AreWords, arith, AsmErrorKind, at_drop_all, at_drop_more, bytes_in, call, Coded, coded_branch, coded_jump, Contained, content_at, content_error, content_of, distance_of, drop, end_of, end_of_line, Err, error_at, first_address, get_or, Instr, IsPart, IsWord, item_bytes, items_bytes, Label, length, length-append, length-replicate, List, load_address, lower, lower_part, None, Ok, one, Option, padding, Place, place, places, plain, refl, reported_at, reported_kind, Reports, ReportsKind, Result, size_at, size_of, Some, Source, Statement, store_lower, subst, sym, upper, upper_part, value_of, with_more, Writes, wrong_in, ℕ, ◌*◌, ◌++◌, ◌+◌, ◌<◌, ◌^◌, ◌∙◌, ◌∷◌, ◌≡◌, ◌≤◌}
use Rattle.rv32i.specs.declared.instr.Instr.TheVariants as i
use Rattle.statements.specs.declared.items.Item.{Item}
use Rattle.statements.specs.declared.items.Width.{Width}
use Rattle.statements.specs.declared.items.Width.TheVariants.{Byte, Half, Word}
use Rattle.statements.specs.declared.statement.Statement.TheVariants as say
use Rattle.assembler.specs.declared.error.AsmErrorKind.TheVariants as k
use Rattle.assembler.proofs.Placing.{reported_so}

-- no line ends after the last
pub end_of_le : (address : ℕ) (program : List Source) → address ≤ end_of address program
end_of_le address [] = omega arith
end_of_le address (source ∷ others) = let h = end_of_le (end_of_line source address) others in omega (arith, h)

pub record IsFilled (limit : ℕ) (labels : List Label) (program : List Source) (count : ℕ) (bytes : List ℕ) (address : ℕ) : Type 0 where
  pub parts : (more : List ℕ) → AreParts labels (places address (drop count program)) more
      → AreParts labels (places first_address program) (bytes ++ more)
  pub wrong : content_error labels (places first_address program) ≡ content_error labels (places address (drop count program))
  pub fits : end_of address (drop count program) ≤ limit
  pub from : first_address ≤ address

next : (address : ℕ) (program : List Source) (count : ℕ) (source : Source)
    → (count < length program) × (source ≡ get_or program count source)
    → places address (drop count program) ≡ place address source ∷ places (end_of_line source address) (drop (count + 1) program)
next address program count source here =
    at_drop_more (places address) program count source here.0
    ∙ ap (λ s. place address s ∷ places (end_of_line s address) (drop (count + 1) program)) (sym here.1)

-- a line that is filled lies within the limit
pub filled_within : (limit : ℕ) (labels : List Label) (program : List Source) (count : ℕ) (source : Source) (bytes : List ℕ) (address : ℕ)
    → IsFilled limit labels program count bytes address → (count < length program) × (source ≡ get_or program count source)
    → end_of_line source address ≤ limit
filled_within limit labels program count source bytes address f here =
    let e : end_of address (drop count program) ≡ end_of (end_of_line source address) (drop (count + 1) program) = at_drop_more
    (end_of address) program count source here.0 ∙ ap (λ s. end_of (end_of_line s address) (drop (count + 1) program)) (sym here.1) in
    let more = end_of_le (end_of_line source address) (drop (count + 1) program) in
    omega (arith, e, more, f.fits)

unspoilt : (contained : Contained) (part : List ℕ) → IsPart contained part → wrong_in contained ≡ None
unspoilt (Ok content) part h = refl
unspoilt (Err kind) part h = absurd h

pub filled_more : (limit : ℕ) (labels : List Label) (program : List Source) (count : ℕ) (source : Source) (bytes bytes' : List ℕ) (address end : ℕ)
    → IsFilled limit labels program count bytes address → (count < length program) × (source ≡ get_or program count source)
    → Writes (Ok tt) (content_at labels address source.line.statement) bytes bytes' → end ≡ end_of_line source address
    → IsFilled limit labels program (count + 1) bytes' end
filled_more limit labels program count source bytes bytes' address end f here (part, right, e) same =
    let rest = drop (count + 1) program in
    let go : IsFilled limit labels program (count + 1) bytes' (end_of_line source address) = record {
      parts = λ more m.
          let whole : AreParts labels (place address source ∷ places (end_of_line source address) rest) (part ++ more) =
          (part, more, right, m, refl) in
          let all = f.parts (part ++ more)
          (subst (λ p. AreParts labels p (part ++ more)) (sym (next address program count source here)) whole) in
          subst (AreParts labels (places first_address program)) (sym (append_assoc bytes part more) ∙ ap (λ l. l ++ more) (sym e)) all;
      wrong =
          f.wrong ∙ ap (content_error labels) (next address program count source here)
          ∙ ap (λ w. error_at source.number w (content_error labels (places (end_of_line source address) rest)))
          (unspoilt (content_at labels address source.line.statement) part right);
      fits =
          let e : end_of address (drop count program) ≡ end_of (end_of_line source address) (drop (count + 1) program) = at_drop_more
          (end_of address) program count source here.0 ∙ ap (λ s. end_of (end_of_line s address) (drop (count + 1) program)) (sym here.1) in
          omega (arith, e, f.fits);
      from = let more : address ≤ end_of_line source address = omega arith in omega (arith, f.from);
    } in
    subst (IsFilled limit labels program (count + 1) bytes') (sym same) go

pub filled_all : (limit : ℕ) (labels : List Label) (program : List Source) (count : ℕ) (bytes : List ℕ) (address : ℕ)
    → IsFilled limit labels program count bytes address → length program ≤ count → AreParts labels (places first_address program) bytes
filled_all limit labels program count bytes address f end =
    let done : places address (drop count program) ≡ [] = at_drop_all (places address) program count end in
    let none : AreParts labels (places address (drop count program)) [] = subst (λ p. AreParts labels p []) (sym done) refl in
    subst (AreParts labels (places first_address program)) (append-nil bytes) (f.parts [] none)

reported_wrong : (kind : AsmErrorKind) (contained : Contained) → ReportsKind kind contained → reported_kind kind (wrong_in contained)
reported_wrong k.NoMemory contained h = tt
reported_wrong _ contained h = ap wrong_in h

pub filled_wrong : (limit : ℕ) (labels : List Label) (program : List Source) (count : ℕ) (source : Source) (bytes : List ℕ) (address : ℕ) (kind : AsmErrorKind)
    → IsFilled limit labels program count bytes address → (count < length program) × (source ≡ get_or program count source)
    → ReportsKind kind (content_at labels address source.line.statement)
    → Reports (reported_at source.number kind) (content_error labels (places first_address program))
filled_wrong limit labels program count source bytes address kind f here h =
    reported_so kind source.number (wrong_in (content_at labels address source.line.statement))
    (content_error labels (places (end_of_line source address) (drop (count + 1) program)))
    (content_error labels (places first_address program)) (reported_wrong kind (content_at labels address source.line.statement) h)
    (f.wrong ∙ ap (content_error labels) (next address program count source here))

pub filled_at : (limit : ℕ) (labels : List Label) (program : List Source) (count : ℕ) (bytes : List ℕ) (address : ℕ)
    → IsFilled limit labels program count bytes address → address ≤ limit
filled_at limit labels program count bytes address f = let e = end_of_le address (drop count program) in omega (arith, e, f.fits)

-- where the parts are right, nothing is wrong
pub parts_right : (labels : List Label) (list : List Place) (bytes : List ℕ) → AreParts labels list bytes → content_error labels list ≡ None
parts_right labels [] bytes h = refl
parts_right labels (p ∷ others) bytes (part, rest, right, more, e) =
    ap (λ w. error_at p.source.number w (content_error labels others))
    (unspoilt (content_at labels p.address p.source.line.statement) part right) ∙ parts_right labels others rest more

-- ---- how long the parts are

word_length : (instr : Instr) (bytes : List ℕ) → IsWord instr bytes → length bytes ≡ 4
word_length instr bytes w = ap length w.low_first

words_length : (list : List Instr) (bytes : List ℕ) → AreWords list bytes → length bytes ≡ 4 * length list
words_length [] bytes h = ap length h
words_length (instr ∷ list) bytes (w, r, p, q, e) =
    let n = ap length e ∙ length-append w r in
    let v = word_length instr w p in
    let m = words_length list r q in
    omega arith

one_length : (coded : Coded) (part : List ℕ) → IsPart (one coded) part → length part ≡ 4
one_length (Ok instr) part h = words_length (instr ∷ []) part h
one_length (Err kind) part h = absurd h

address_length : (rd : ℕ) (far : Result ℕ AsmErrorKind) (part : List ℕ) → IsPart (load_address rd far) part → length part ≡ 8
address_length rd (Ok far) part h = words_length (i.Auipc rd (upper_part far) ∷ i.Addi rd rd (lower_part far) ∷ []) part h
address_length rd (Err kind) part h = absurd h

call_length : (far : Result ℕ AsmErrorKind) (part : List ℕ) → IsPart (call far) part → length part ≡ 8
call_length (Ok far) part h = words_length (i.Auipc 1 (upper_part far) ∷ i.Jalr 1 1 (lower_part far) ∷ []) part h
call_length (Err kind) part h = absurd h

item_length : (width : Width) (value : ℕ) → length (item_bytes width value) ≡ bytes_in width
item_length Byte value = refl
item_length Half value = refl
item_length Word value = refl

item_then : (width : Width) (value : Result ℕ AsmErrorKind) (rest : Result (List ℕ) AsmErrorKind) (bytes : List ℕ) (count : ℕ)
    → ((more : List ℕ) → rest ≡ Ok more → length more ≡ count * bytes_in width)
    → and_then value (λ v. with_more (item_bytes width v) rest) ≡ Ok bytes → length bytes ≡ (1 + count) * bytes_in width
item_then width (Err kind) rest bytes count f h = cc
item_then width (Ok value) (Err kind) bytes count f h = cc
item_then width (Ok value) (Ok more) bytes count f h =
    let e : item_bytes width value ++ more ≡ bytes = cc in
    let n = sym (ap length e) ∙ length-append (item_bytes width value) more in
    let v = item_length width value in
    let m = f more refl in
    omega arith

items_length : (labels : List Label) (width : Width) (items : List Item) (bytes : List ℕ) → items_bytes labels width items ≡ Ok bytes
    → length bytes ≡ length items * bytes_in width
items_length labels width [] bytes h = let e : [] ≡ bytes = cc in let n : length bytes ≡ 0 = sym (ap length e) in omega arith
items_length labels width (item ∷ items) bytes h =
    let n = item_then width (value_of labels item) (items_bytes labels width items) bytes (length items)
    (λ more e. items_length labels width items more e) h in
    omega arith

plain_length : (bytes : Result (List ℕ) AsmErrorKind) (part : List ℕ) → IsPart (plain bytes) part → bytes ≡ Ok part
plain_length (Ok bytes) part h = ap Ok (sym h)
plain_length (Err kind) part h = absurd h

statement_length : (labels : List Label) (address : ℕ) (statement : Statement) (part : List ℕ)
    → IsPart (content_of labels address statement) part → length part ≡ size_of statement address
statement_length labels address (say.One first) part h = words_length (first ∷ []) part h
statement_length labels address (say.Two first second) part h = words_length (first ∷ second ∷ []) part h
statement_length labels address (say.Jump rd target) part h = one_length (coded_jump labels address rd target) part h
statement_length labels address (say.Branch condition rs1 rs2 target) part h =
    one_length (coded_branch labels address condition rs1 rs2 target) part h
statement_length labels address (say.Upper rd label) part h = one_length (upper labels rd label) part h
statement_length labels address (say.Lower operation rd rs1 label) part h = one_length (lower labels operation rd rs1 label) part h
statement_length labels address (say.StoreLower operation rs1 rs2 label) part h =
    one_length (store_lower labels operation rs1 rs2 label) part h
statement_length labels address (say.LoadAddress rd label) part h = address_length rd (distance_of labels address label) part h
statement_length labels address (say.Call label) part h = call_length (distance_of labels address label) part h
statement_length labels address (say.Data width items) part h =
    items_length labels width items part (plain_length (items_bytes labels width items) part h)
statement_length labels address (say.Space count) part h = ap length h ∙ length-replicate count 0
statement_length labels address (say.Align power) part h = ap length h ∙ length-replicate (padding (2 ^ power) address) 0
statement_length labels address say.Nothing part h = ap length h

part_length : (labels : List Label) (address : ℕ) (statement : Option Statement) (part : List ℕ)
    → IsPart (content_at labels address statement) part → length part ≡ size_at statement address
part_length labels address None part h = ap length h
part_length labels address (Some statement) part h = statement_length labels address statement part h

-- the last line ends after the last byte
pub parts_length : (labels : List Label) (address : ℕ) (program : List Source) (bytes : List ℕ)
    → AreParts labels (places address program) bytes → address + length bytes ≡ end_of address program
parts_length labels address [] bytes h = let e = ap length h in omega arith
parts_length labels address (source ∷ others) bytes (part, rest, right, more, e) =
    let n = ap length e ∙ length-append part rest in
    let size = part_length labels address source.line.statement part right in
    let all = parts_length labels (end_of_line source address) others rest more in
    omega (arith, all, size, n)
