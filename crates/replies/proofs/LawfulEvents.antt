-- The forms of the events' bodies are lawful.
use Rattle.replies.proofs.Common.{are_ascii, arith, field, Fields, first_named, fixed, Lawful, lawful_field, lawful_fixed, lawful_list, lawful_made_of, lawful_none, lawful_object, lawful_one_of, lawful_optional, lawful_signed, lawful_text, lawful_unless_empty, lawful_whole, LawfulFields, List, none, number, Option, optional, refl, text, true, unless_empty, unsigned, whole, ℕ, ◌≡◌}
use Rattle.std.proofs.Common.{codes}
use Rattle.std.specs.Prelude.{Some}
use Rattle.message_parts.specs.Stopped.{reason, reason_name, reasons, stopped}
use Rattle.message_parts.specs.Output.{categories, category, category_name, output}
use Rattle.message_parts.specs.declared.output.Category.{Category}
use Rattle.message_parts.specs.declared.output.Category.TheVariants.{Console, Stdout}
use Rattle.message_parts.specs.Exited.{exited}
use Rattle.message_parts.specs.declared.stopped.Reason.{Reason}
use Rattle.message_parts.specs.declared.stopped.Reason.TheVariants.{Entry, Step, Breakpoint, InstructionBreakpoint, FunctionBreakpoint, Exception, Pause}

-- the reason of a reason's name is that reason
again : (r : Reason) → first_named reason_name reasons (reason_name r) ≡ Some r
again Entry = refl
again _ = refl

ascii : (r : Reason) → are_ascii (reason_name r) ≡ true
ascii Entry = refl
ascii _ = refl

lawful_reason : Lawful 1 reason
lawful_reason = lawful_one_of reason_name reasons again ascii

-- the members after the list
abbrev after_list : Fields (Reason × (Option (List ℕ) × Unit {0}))
after_list = field (codes "reason") reason (optional (codes "text") text (fixed (codes "threadId") (number (unsigned 1)) none))

lawful_after_list : LawfulFields 1 after_list
lawful_after_list =
    lawful_field refl refl lawful_reason
    (lawful_optional refl refl lawful_text (lawful_fixed refl refl (omega arith) refl refl (omega arith) lawful_none))

lawful_list_and_others : LawfulFields 1 (unless_empty (codes "hitBreakpointIds") whole after_list)
lawful_list_and_others = lawful_unless_empty whole refl refl (lawful_list {form = whole} lawful_whole) lawful_after_list

pub lawful_stopped : Lawful 2 stopped
lawful_stopped =
    lawful_made_of _ _ (λ x. refl) (λ y h. h) (lawful_object (lawful_fixed refl refl (omega arith) refl refl tt lawful_list_and_others))

-- the category of a category's name is that category
same_category : (c : Category) → first_named category_name categories (category_name c) ≡ Some c
same_category Console = refl
same_category Stdout = refl

ascii_category : (c : Category) → are_ascii (category_name c) ≡ true
ascii_category Console = refl
ascii_category Stdout = refl

lawful_category : Lawful 1 category
lawful_category = lawful_one_of category_name categories same_category ascii_category

pub lawful_output : Lawful 2 output
lawful_output =
    lawful_made_of _ _ (λ x. refl) (λ y h. h)
    (lawful_object (lawful_field refl refl lawful_category (lawful_field refl refl lawful_text lawful_none)))

pub lawful_exited : Lawful 1 exited
lawful_exited = lawful_made_of _ _ (λ x. refl) (λ y h. h) (lawful_object (lawful_field refl refl lawful_signed lawful_none))
