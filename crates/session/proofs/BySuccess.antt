-- The success of each request, kind by kind: what holds of each kind of success holds of the success of each request.
--
-- This is the one list of requests in the laws over what is answered. A further request that looks into the program, lets it continue or
-- sets breakpoints has a line in it, and none in those laws.
use Rattle.session.proofs.Common.{[], agreeing, Answering, ap, AsmError, AssemblyFailed, Bool, changing, Command, demand_of, Done, false, FileUnreadable, Given, Goal, has_none, has_room, has_text, if_keeps, initializes, is_resume, is_taken_in, issues, IsTrue, length, List, looks_in, looks_on, NoHistory, None, Ok, Option, Phase, Position, Program, refl, Refusal, refusing, replaces, ResponseBody, resumed, resuming, run_of, seen_in, set_variable, sets_breakpoints, Setting, SetVariableArguments, Some, subst, success_of, success_on, sym, take, Terms, true, true≢false, Wanted, with_hart, write_memory, WriteMemoryArguments, Writing, written, ℕ, ◌&&◌, ◌+◌, ◌∙◌, ◌∷◌, ◌≡◌, ◌≤◌}
use Rattle.assembler.specs.Placed.{error_of}
use Rattle.protocol.specs.Commands.{name_of}
use Rattle.protocol.specs.declared.command.Command.TheVariants as command
use Rattle.protocol.specs.declared.disconnect.DisconnectArguments.{DisconnectArguments}
use Rattle.protocol.specs.declared.initialize.InitializeArguments.{InitializeArguments}
use Rattle.protocol.specs.declared.launch.LaunchArguments.{LaunchArguments}
use Rattle.protocol.specs.declared.thread_arguments.ThreadArguments.{ThreadArguments}
use Rattle.replies.specs.Responses.{IsOutcomeOf}
use Rattle.replies.specs.declared.response.ResponseBody.TheVariants as body
use Rattle.handlers.specs.declared.phase.Phase.TheVariants.{Active}
use Rattle.handlers.specs.ConfigurationDone.{begins, joins}
use Rattle.handlers.specs.Disconnect as disconnect
use Rattle.handlers.specs.GoingBack as going_back
use Rattle.handlers.specs.Initialize as initialize
use Rattle.handlers.specs.Launch.{assembles, error_text, loads}
use Rattle.handlers.specs.Pause as pause
use Rattle.handlers.specs.Stepping.{granularity_of}
use Rattle.session.proofs.Breaking.{answer_on, by_answer}
use Rattle.session.proofs.Looked.{by_look, by_setting, by_writing}
use Rattle.stepping.specs.declared.goal.Goal.TheVariants as goal

-- ---- the kinds

-- a request that changes nothing but what is agreed, and its body, which may say what the program is like
abbrev pub agrees : Command → Bool
agrees command.Threads = true
agrees (command.Cancel arguments) = true
agrees command.SetExceptionBreakpoints = true
agrees other = false

abbrev pub agreed_body : Given → Command → ResponseBody
agreed_body given command.Threads = body.Threads
agreed_body given other = body.Empty

pub record Agrees (given : Given) (c : Command) : Type 0 where
  pub kind : IsTrue (agrees c)
  pub outcome : IsOutcomeOf (name_of c) (Done (agreed_body given c))
  pub plain : initializes (Done (agreed_body given c)) ≡ 0
  pub stays : is_resume (name_of c) ≡ false

-- one that lets the program continue with a goal, and its body
abbrev pub steps : Command → Bool
steps (command.Continue arguments) = true
steps (command.Next arguments) = true
steps (command.StepIn arguments) = true
steps (command.StepOut arguments) = true
steps (command.StepBack arguments) = true
steps (command.ReverseContinue arguments) = true
steps other = false

abbrev pub step_body : Command → ResponseBody
step_body (command.Continue arguments) = body.Continue
step_body other = body.Empty

pub record Steps (c : Command) : Type 0 where
  pub kind : IsTrue (steps c)
  pub outcome : IsOutcomeOf (name_of c) (Done (step_body c))
  pub plain : initializes (Done (step_body c)) ≡ 0
  pub active : (phase : Phase) → is_taken_in phase c ≡ Rattle.handlers.specs.Phases.is_active_in phase
  pub loaded : (demand_of c).loaded ≡ true
  pub still : (demand_of c).still ≡ true

-- one that asks for a program, and does not let it continue
pub record IsAboutProgram (c : Command) : Type 0 where
  pub loaded : (demand_of c).loaded ≡ true
  pub stays : is_resume (name_of c) ≡ false

-- one that sets a list of breakpoints
pub record SetsList (c : Command) : Type 0 where
  pub sets : IsTrue (sets_breakpoints c)
  pub about : IsAboutProgram c

-- one that looks into a program that stands still
pub record Looks (c : Command) : Type 0 where
  pub looks : IsTrue (looks_in c)
  pub about : IsAboutProgram c
  pub still : (demand_of c).still ≡ true

-- there is a program where one is asked for
abbrev pub Has : Given → Command → Type 0
Has given c = ((demand_of c).loaded && has_none (run_of given.debuggee.program)) ≡ false

pub has_program : (given : Given) (c : Command) → (demand_of c).loaded ≡ true → Has given c
    → has_none (run_of given.debuggee.program) ≡ false
has_program given c loaded there = subst (λ (l : Bool). (l && has_none (run_of given.debuggee.program)) ≡ false) loaded there

not_absent : {A : Type 0} (given : Given) (c : Command) → IsAboutProgram c → Has given c → given.debuggee.program ≡ None → A
not_absent given c about there none =
    absurd (true≢false (sym (ap (λ (x : Option Program). has_none (run_of x)) none) ∙ has_program given c about.loaded there))

-- ---- what has to be shown of each kind

pub record BySuccess (given : Given) (terms : Terms) (P : Command → Answering → Type 0) : Type 0 where
  pub initialized : (arguments : InitializeArguments) → P (command.Initialize arguments) (initialize.success given terms arguments)
  pub unreadable : (arguments : LaunchArguments) → P (command.Launch arguments) (refusing given terms FileUnreadable None)
  pub loaded : (arguments : LaunchArguments) (text : List ℕ) → error_of text given.size ≡ None
      → P (command.Launch arguments) (loads given terms arguments text)
  pub wrong : (arguments : LaunchArguments) (text : List ℕ) (error : AsmError) → error_of text given.size ≡ Some error
      → P (command.Launch arguments) (refusing given terms AssemblyFailed (Some (error_text error)))
  pub attaches : P command.Attach (Rattle.handlers.specs.Attach.success given terms)
  pub begun : terms.launched ≡ true → P command.ConfigurationDone (begins given (record terms { phase = Active }))
  pub joined : terms.launched ≡ false → P command.ConfigurationDone (joins given (record terms { phase = Active }))
  pub agreed : (c : Command) → Agrees given c → P c (agreeing given terms (agreed_body given c))
  pub restarts : P command.Restart (Rattle.handlers.specs.Restart.success given terms)
  pub terminates : P command.Terminate (Rattle.handlers.specs.Terminate.success given terms)
  pub leaves : (arguments : DisconnectArguments) → P (command.Disconnect arguments) (disconnect.success given terms arguments)
  pub pauses : (arguments : ThreadArguments) → P (command.Pause arguments) (pause.success given terms)
  pub stepped : (c : Command) → Steps c → (g : Goal) → P c (resuming given terms (resumed g) (step_body c))
  -- one that is answered by the program may be refused; as one may be that lets it go back
  pub refused : (c : Command) → (demand_of c).loaded ≡ true → (refusal : Refusal) → has_text refusal ≡ false
      → P c (refusing given terms refusal None)
  pub sets_none : (c : Command) → SetsList c → (p : Program) (b : ResponseBody) → given.debuggee.program ≡ Some p
      → (answer_on p given terms c).result ≡ Ok b → (answer_on p given terms c).list ≡ None
      → P c (agreeing given terms b)
  pub sets_list : (c : Command) → SetsList c → (p : Program) (b : ResponseBody) (list : List Wanted) → given.debuggee.program ≡ Some p
      → (answer_on p given terms c).result ≡ Ok b → (answer_on p given terms c).list ≡ Some list
      → given.debuggee.last_break + length list ≤ given.last_ref
      → P c (replaces given terms c b (record { list = list; last = given.debuggee.last_break + length list }))
  pub shows : (c : Command) → Looks c → (p : Program) (b : ResponseBody) → given.debuggee.program ≡ Some p
      → (seen_in p given terms c).result ≡ Ok b → initializes (Done b) ≡ 0
      → has_room given.numbers (seen_in p given terms c).targets ≡ true → P c (issues given terms b (seen_in p given terms c).targets)
  pub sets_register : (arguments : SetVariableArguments) (p : Program) (setting : Setting) → given.debuggee.program ≡ Some p
      → set_variable arguments p.machine given.numbers ≡ Ok setting → initializes (Done setting.body) ≡ 0
      → P (command.SetVariable arguments) (changing given terms (with_hart setting.hart) setting.body)
  pub writes : (arguments : WriteMemoryArguments) (p : Program) (writing : Writing) → given.debuggee.program ≡ Some p
      → write_memory arguments p.machine.memory ≡ Ok writing → initializes (Done writing.body) ≡ 0
      → P (command.WriteMemory arguments) (changing given terms (written writing.address (take writing.count arguments.bytes)) writing.body)

-- ---- and then it is so of each request

module _ (given : Given) (terms : Terms) (P : Command → Answering → Type 0) (h : BySuccess given terms P) where
  launched : (arguments : LaunchArguments) (text : List ℕ) (error : Option AsmError) → error_of text given.size ≡ error
      → P (command.Launch arguments) (assembles given terms arguments text error)
  launched arguments text None e = h.loaded arguments text e
  launched arguments text (Some error) e = h.wrong arguments text error e

  listed : (c : Command) → SetsList c → Has given c → P c (success_on given.debuggee.program given terms c)
  listed c kind there =
      by_answer (P c) given.debuggee.program given terms c kind.sets (not_absent given c kind.about there) (h.refused c kind.about.loaded)
      (h.sets_none c kind) (h.sets_list c kind)

  looked : (c : Command) → Looks c → Has given c → P c (looks_on given.debuggee.program given terms c)
  looked c kind there =
      by_look (P c) given.debuggee.program given terms c kind.looks (not_absent given c kind.about there) (h.refused c kind.about.loaded)
      (h.shows c kind)

  -- by the moves that are recorded: it goes back, or is refused
  backed : (c : Command) (g : Goal) → (demand_of c).loaded ≡ true → P c (resuming given terms (resumed g) body.Empty)
      → (past : List Position) → P c (going_back.success_by past given terms g)
  backed c g loaded goes [] = h.refused c loaded NoHistory refl
  backed c g loaded goes (before ∷ past) = goes

  pub by_success : (file : Option (List ℕ)) (c : Command) → Has given c → P c (success_of given terms file c)
  by_success file (command.Initialize arguments) there = h.initialized arguments
  by_success None (command.Launch arguments) there = h.unreadable arguments
  by_success (Some text) (command.Launch arguments) there = launched arguments text (error_of text given.size) refl
  by_success file command.Attach there = h.attaches
  by_success file command.ConfigurationDone there = if_keeps (P command.ConfigurationDone) terms.launched _ _ h.begun h.joined
  by_success file command.Threads there = h.agreed _ (assumption)
  by_success file (command.Cancel arguments) there = h.agreed _ (assumption)
  by_success file command.SetExceptionBreakpoints there = h.agreed _ (assumption)
  by_success file command.Restart there = h.restarts
  by_success file command.Terminate there = h.terminates
  by_success file (command.Disconnect arguments) there = h.leaves arguments
  by_success file (command.Pause arguments) there = h.pauses arguments
  by_success file (command.Continue arguments) there = h.stepped _ (assumption) goal.Go
  by_success file (command.Next arguments) there = h.stepped _ (assumption) (goal.Over (granularity_of arguments.granularity))
  by_success file (command.StepIn arguments) there = h.stepped _ (assumption) (goal.In (granularity_of arguments.granularity))
  by_success file (command.StepOut arguments) there = h.stepped _ (assumption) (goal.Out (granularity_of arguments.granularity))
  by_success file (command.StepBack arguments) there =
      backed (command.StepBack arguments) goal.Back refl (h.stepped (command.StepBack arguments) (assumption) goal.Back)
      (going_back.past_of given.debuggee.program)
  by_success file (command.ReverseContinue arguments) there =
      backed (command.ReverseContinue arguments) goal.ReverseGo refl
      (h.stepped (command.ReverseContinue arguments) (assumption) goal.ReverseGo) (going_back.past_of given.debuggee.program)
  by_success file (command.SetBreakpoints arguments) there = listed _ (assumption) there
  by_success file (command.SetFunctionBreakpoints arguments) there = listed _ (assumption) there
  by_success file (command.SetInstructionBreakpoints arguments) there = listed _ (assumption) there
  by_success file (command.SetVariable arguments) there =
      by_setting (P (command.SetVariable arguments)) given.debuggee.program given terms arguments
      (not_absent given (command.SetVariable arguments) (assumption) there) (h.refused (command.SetVariable arguments) refl)
      (h.sets_register arguments)
  by_success file (command.WriteMemory arguments) there =
      by_writing (P (command.WriteMemory arguments)) given.debuggee.program given terms arguments
      (not_absent given (command.WriteMemory arguments) (assumption) there) (h.refused (command.WriteMemory arguments) refl)
      (h.writes arguments)
  by_success file looks there = looked looks (assumption) there
