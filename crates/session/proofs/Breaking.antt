-- The answer to a request that sets breakpoints, case by case.
use Rattle.session.proofs.Common.{agreeing, Answering, arith, Bool, breaks_answer, Command, cond, Done, Err, false, Given, has_text, if_keeps, initializes, is_word, IsTrue, length, List, lt-ltb, ltb, map, MatchResult, nat_tests, None, Ok, Option, Program, ReferencesExhausted, refl, Refusal, refusing, replaces, ResponseBody, Result, SetBreakpoints, SetFunctionBreakpoints, SetInstructionBreakpoints, sets_breakpoints, sets_by, slice_index, Some, success_on, sym, Terms, TooMuch, true, true≢false, Wanted, ℕ, ◌+◌, ◌≡◌, ◌≤◌}
use Rattle.std.proofs.lemmas.List.{length-map}
use Rattle.std.proofs.lemmas.List.Elements.{All-from_get_or, recursion_from_All}
use Rattle.answers.specs.Breakpoints.{Answer}
use Rattle.answers.specs.SetBreakpoints.{is_own, is_too_much, of_source}
use Rattle.answers.proofs.Entries.{numbers_follow}
use Rattle.replies.specs.declared.response.ResponseBody.TheVariants as body
use Rattle.handlers.specs.Views.{view_of}

-- the answer by a program
abbrev pub answer_on : Program → Given → Terms → Command → Answer
answer_on p given terms command = breaks_answer command p.image.lines p.machine.size (view_of terms p) (given.debuggee.last_break + 1)

-- an answer that refuses does it with a refusal that has no text, and one that succeeds is none of `initialize`
abbrev pub IsPlain : Result ResponseBody Refusal → Type 0
IsPlain result = MatchResult result (λ b. initializes (Done b) ≡ 0) (λ refusal. has_text refusal ≡ false)

plain_by : (many : Bool) (answer : Answer) → IsPlain answer.result
    → IsPlain (let it : Answer = cond many (record { result = Err TooMuch; list = None }) answer in it.result)
plain_by many answer h = grind arith

pub is_plain : (p : Program) (given : Given) (terms : Terms) (command : Command) → IsTrue (sets_breakpoints command)
    → IsPlain (answer_on p given terms command).result
is_plain p given terms (SetBreakpoints arguments) sets =
    let view = view_of terms p in
    plain_by (is_too_much arguments.breakpoints)
    (of_source (is_own view.path arguments.source.path) p.image.lines view (given.debuggee.last_break + 1) arguments.breakpoints) refl
is_plain p given terms (SetInstructionBreakpoints arguments) sets = plain_by (ltb 1024 (length arguments.breakpoints)) _ refl
is_plain p given terms (SetFunctionBreakpoints arguments) sets = plain_by (ltb 1024 (length arguments.breakpoints)) _ refl
is_plain p given terms other sets = absurd (true≢false (sym sets))

-- what holds of each plain refusal, and of what is answered else, holds of the result
pub by_result : {A : Type 0} (Good : A → Type 0) (result : Result A Refusal)
    → MatchResult result Good (λ refusal. has_text refusal ≡ false) → (P : Result A Refusal → Type 0)
    → ((refusal : Refusal) → has_text refusal ≡ false → P (Err refusal)) → ((a : A) → result ≡ Ok a → Good a → P (Ok a)) → P result
by_result Good (Ok a) plain P refuses good = good a refl plain
by_result Good (Err refusal) plain P refuses good = refuses refusal plain

few_given : (last greatest : ℕ) → ltb greatest last ≡ false → last ≤ greatest
few_given last greatest e = grind (arith, nat_tests, e)

-- What holds of each way in which such a request is answered holds of the answer.
pub by_answer : (P : Answering → Type 0) (program : Option Program) (given : Given) (terms : Terms) (command : Command)
    → IsTrue (sets_breakpoints command)
    → (program ≡ None → P (agreeing given terms body.Empty))
    → ((refusal : Refusal) → has_text refusal ≡ false → P (refusing given terms refusal None))
    → ((p : Program) (b : ResponseBody) → program ≡ Some p → (answer_on p given terms command).result ≡ Ok b → (answer_on p given terms command).list ≡ None → P (agreeing given terms b))
    → ((p : Program) (b : ResponseBody) (list : List Wanted) → program ≡ Some p → (answer_on p given terms command).result ≡ Ok b → (answer_on p given terms command).list ≡ Some list → given.debuggee.last_break + length list ≤ given.last_ref
    → P (replaces given terms command b (record { list = list; last = given.debuggee.last_break + length list })))
    → P (success_on program given terms command)
by_answer P None given terms command sets none refuses agrees replaced = none refl
by_answer P (Some p) given terms command sets none refuses agrees replaced =
    let answer = answer_on p given terms command in
    by_result (λ b. initializes (Done b) ≡ 0) answer.result (is_plain p given terms command sets)
    (λ result. P (sets_by given terms command result answer.list)) refuses (λ b e _. go b e answer.list refl) where
      go : (b : ResponseBody) → (answer_on p given terms command).result ≡ Ok b → (list : Option (List Wanted))
          → (answer_on p given terms command).list ≡ list → P (sets_by given terms command (Ok b) list)
      go b e None f = agrees p b refl e f
      go b e (Some list) f =
          if_keeps P (ltb given.last_ref (given.debuggee.last_break + length list)) _ _ (λ _. refuses ReferencesExhausted refl)
          (λ t. replaced p b list refl e f (few_given (given.debuggee.last_break + length list) given.last_ref t))

-- ---- the numbers of those that are set

-- they are numbers of 32 bits
pub ids_are_words : (p : Program) (given : Given) (terms : Terms) (command : Command) (list : List Wanted)
    → (answer_on p given terms command).list ≡ Some list → given.debuggee.last_break + length list ≤ 2147483647
    → Rattle.session.proofs.Orderly.AreWords (map (λ w. w.id) list)
ids_are_words p given terms command list e few =
    let next = given.debuggee.last_break + 1 in
    let follow = rw e at (numbers_follow command p.image.lines p.machine.size (view_of terms p) next) in
    let ids = map (λ (w : Wanted). w.id) list in
    let many : length ids ≡ length list = length-map list (λ (w : Wanted). w.id) in
    recursion_from_All (λ n. is_word n ≡ true) ids (All-from_get_or (λ n. is_word n ≡ true) ids 0
    (λ k h. let e = follow k (omega (arith, many, h)) in lt-ltb (slice_index ids k) 4294967296 (omega (arith, e, h, few, many))))
