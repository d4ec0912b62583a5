-- What is wrong with a statement is what the assembler finds when it makes its bytes.
use Rattle.diagnostics.proofs.Common.{[], address_of, and_then, AsmErrorKind, branch_offset, call, Coded, coded_branch, coded_jump, content_at, content_of, distance, Err, error_in, first_of, item_bytes, items_bytes, jump_offset, Label, List, load_address, lower, None, Ok, one, Option, plain, refl, Result, Some, store_lower, target_of, upper, value_of, with_more, wrong_content, wrong_in, wrong_items, wrong_statement, ℕ, ◌∙◌, ◌∷◌, ◌≡◌}
use Rattle.statements.specs.declared.items.Item.{Item}
use Rattle.statements.specs.declared.items.Width.{Width}
use Rattle.statements.specs.declared.statement.Statement.{Statement}
use Rattle.statements.specs.declared.statement.Statement.TheVariants as say

coded_so : (coded : Coded) → error_in coded ≡ wrong_in (one coded)
coded_so (Ok instruction) = refl
coded_so (Err kind) = refl

-- of a value that something is made of
value_so : {A B : Type 0} (value : Result A AsmErrorKind) (f : A → B) → error_in value ≡ error_in (and_then value (λ v. Ok (f v)))
value_so (Ok v) f = refl
value_so (Err kind) f = refl

-- of a target that is looked up, and then has to be near
target_so : {B : Type 0} (target : Result ℕ AsmErrorKind) (near : ℕ → Result ℕ AsmErrorKind) (f : ℕ → B)
    → error_in (and_then target near) ≡ error_in (and_then target (λ to. and_then (near to) (λ offset. Ok (f offset))))
target_so (Ok to) near f = value_so (near to) f
target_so (Err kind) near f = refl

-- of an address that two instructions are made of
address_so : (to : Result ℕ AsmErrorKind) (rd address : ℕ)
    → error_in to ≡ wrong_in (load_address rd (and_then to (λ t. Ok (distance t address))))
address_so (Ok t) rd address = refl
address_so (Err kind) rd address = refl

call_so : (to : Result ℕ AsmErrorKind) (address : ℕ) → error_in to ≡ wrong_in (call (and_then to (λ t. Ok (distance t address))))
call_so (Ok t) address = refl
call_so (Err kind) address = refl

-- of items
more_so : (bytes : List ℕ) (rest : Result (List ℕ) AsmErrorKind) → wrong_in (plain rest) ≡ wrong_in (plain (with_more bytes rest))
more_so bytes (Ok more) = refl
more_so bytes (Err kind) = refl

item_so : (width : Width) (value : Result ℕ AsmErrorKind) (rest : Result (List ℕ) AsmErrorKind) (wrong : Option AsmErrorKind)
    → wrong ≡ wrong_in (plain rest)
    → first_of (error_in value) wrong ≡ wrong_in (plain (and_then value (λ v. with_more (item_bytes width v) rest)))
item_so width (Ok v) rest wrong h = h ∙ more_so (item_bytes width v) rest
item_so width (Err kind) rest wrong h = refl

items_so : (labels : List Label) (width : Width) (items : List Item)
    → wrong_items labels items ≡ wrong_in (plain (items_bytes labels width items))
items_so labels width [] = refl
items_so labels width (item ∷ items) =
    item_so width (value_of labels item) (items_bytes labels width items) (wrong_items labels items) (items_so labels width items)

statement_so : (labels : List Label) (address : ℕ) (statement : Statement)
    → wrong_statement labels address statement ≡ wrong_in (content_of labels address statement)
statement_so labels address (say.One first) = refl
statement_so labels address (say.Two first second) = refl
statement_so labels address (say.Jump rd target) =
    let e : error_in (and_then (target_of labels target) (λ to. jump_offset (distance to address)))
    ≡ error_in (coded_jump labels address rd target)
    = target_so (target_of labels target) (λ to. jump_offset (distance to address)) _ in
    e ∙ coded_so (coded_jump labels address rd target)
statement_so labels address (say.Branch condition rs1 rs2 target) =
    let e : error_in (and_then (target_of labels target) (λ to. branch_offset (distance to address)))
    ≡ error_in (coded_branch labels address condition rs1 rs2 target)
    = target_so (target_of labels target) (λ to. branch_offset (distance to address)) _ in
    e ∙ coded_so (coded_branch labels address condition rs1 rs2 target)
statement_so labels address (say.Upper rd label) =
    let e : error_in (address_of labels label) ≡ error_in (upper labels rd label) = value_so (address_of labels label) _ in
    e ∙ coded_so (upper labels rd label)
statement_so labels address (say.Lower operation rd rs1 label) =
    let e : error_in (address_of labels label) ≡ error_in (lower labels operation rd rs1 label)
    = value_so (address_of labels label) _ in
    e ∙ coded_so (lower labels operation rd rs1 label)
statement_so labels address (say.StoreLower operation rs1 rs2 label) =
    let e : error_in (address_of labels label) ≡ error_in (store_lower labels operation rs1 rs2 label)
    = value_so (address_of labels label) _ in
    e ∙ coded_so (store_lower labels operation rs1 rs2 label)
statement_so labels address (say.LoadAddress rd label) = address_so (address_of labels label) rd address
statement_so labels address (say.Call label) = call_so (address_of labels label) address
statement_so labels address (say.Data width items) = items_so labels width items
statement_so labels address _ = refl

pub wrong_so : (labels : List Label) (address : ℕ) (statement : Option Statement)
    → wrong_content labels address statement ≡ wrong_in (content_at labels address statement)
wrong_so labels address None = refl
wrong_so labels address (Some statement) = statement_so labels address statement
