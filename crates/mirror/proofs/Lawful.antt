-- What holds of every stream and of every past.
use Rattle.mirror.proofs.Common.{[], after_input, ap, append-nil, append_assoc, body_limit, drop, error_of, Facts, fault_in, fold, folded, length, List, messages_of, messages_so_far, newly_whole, None, nothing_past, Option, Past, reading_after, refl, Some, sym, ℕ, ◌++◌, ◌∙◌, ◌≡◌}
use Rattle.std.proofs.Math.Seq.{drop-append_seam}
use Rattle.std.proofs.lemmas.List.Sums.{fold-append, fold_push}
use Rattle.framing.specs.Reading.{Reading, reading_of}
use Rattle.framing.proofs.Cutting.{reading_of-append}
use Rattle.protocol.specs.declared.request.MessageError.{MessageError}
use Rattle.replies.specs.declared.message.Message.{Message}
use Rattle.mirror.specs.Laws.{CutsDoNotMatter, FaultsStay, InputsMakePasts, MessagesMakeFacts}
use Rattle.mirror.specs.declared.asked.Asked.{Asked}
use Rattle.mirror.proofs.Streaming.{messages_of-append, messages_of-error, same_fault}

-- ---- messages come after messages

-- what comes after a prefix is what is left without it
seam : (whole before after : List Message) → whole ≡ before ++ after → whole ≡ before ++ drop (length before) whole
seam whole before after e =
    e ∙ ap (λ (l : List Message). before ++ l) (sym (ap (drop (length before)) e ∙ drop-append_seam before after))

more_by : (stream piece : List ℕ) (m : Option MessageError) → error_of (reading_of body_limit stream).bodies ≡ m
    → messages_so_far (stream ++ piece) ≡ messages_so_far stream ++ newly_whole stream piece
more_by stream piece None e =
    let R = reading_of body_limit stream in
    let r = reading_after body_limit R.tail piece in
    seam (messages_so_far (stream ++ piece)) (messages_so_far stream) (messages_of r.bodies)
    (ap (λ (w : Reading). messages_of w.bodies) (reading_of-append body_limit stream piece) ∙ messages_of-append R.bodies r.bodies e)
more_by stream piece (Some x) e =
    let R = reading_of body_limit stream in
    let r = reading_after body_limit R.tail piece in
    seam (messages_so_far (stream ++ piece)) (messages_so_far stream) []
    (ap (λ (w : Reading). messages_of w.bodies) (reading_of-append body_limit stream piece) ∙ messages_of-error R.bodies r.bodies x e
    ∙ sym (append-nil (messages_so_far stream)))

more : (stream piece : List ℕ) → messages_so_far (stream ++ piece) ≡ messages_so_far stream ++ newly_whole stream piece
more stream piece = more_by stream piece (error_of (reading_of body_limit stream).bodies) refl

newly-append : (stream piece next : List ℕ)
    → newly_whole stream (piece ++ next) ≡ newly_whole stream piece ++ newly_whole (stream ++ piece) next
newly-append stream piece next =
    let so_far = messages_so_far stream in
    let whole : messages_so_far (stream ++ (piece ++ next)) ≡ so_far ++ (newly_whole stream piece ++ newly_whole (stream ++ piece) next) =
    sym (ap messages_so_far (append_assoc stream piece next)) ∙ more (stream ++ piece) next
    ∙ ap (λ (l : List Message). l ++ newly_whole (stream ++ piece) next) (more stream piece)
    ∙ append_assoc so_far (newly_whole stream piece) (newly_whole (stream ++ piece) next) in
    ap (drop (length so_far)) whole ∙ drop-append_seam so_far (newly_whole stream piece ++ newly_whole (stream ++ piece) next)

-- ---- the laws

same_past : (asked : ℕ → Option Asked) (f g : Facts) (a b : List ℕ) → f ≡ g → a ≡ b
    → (let p : Past = record { asked = asked; facts = f; bytes = a } in p) ≡ record { asked = asked; facts = g; bytes = b }
same_past asked f g a b e d = cc

pub cuts_do_not_matter : CutsDoNotMatter
cuts_do_not_matter past piece next =
    same_past past.asked _ _ _ _
    (sym (ap (fold (folded past.asked) past.facts) (newly-append past.bytes piece next)
    ∙ fold-append (folded past.asked) past.facts (newly_whole past.bytes piece) (newly_whole (past.bytes ++ piece) next)))
    (append_assoc past.bytes piece next)

nothing_yet : messages_so_far [] ≡ []
unfolding reading_of
nothing_yet = refl

pub messages_make_facts : MessagesMakeFacts
messages_make_facts asked facts stream =
    ap (λ (l : List Message). fold (folded asked) facts (drop (length l) (messages_so_far stream))) nothing_yet
    ∙ ap (fold (folded asked) facts) (drop-append_seam (let none : List Message = [] in none) (messages_so_far stream))

pub faults_stay : FaultsStay
faults_stay stream more error e =
    let R = reading_of body_limit stream in
    let same = same_fault R.bodies R.tail more error (error_of R.bodies) refl e in
    let whole = reading_of-append body_limit stream more in
    (ap fault_in whole ∙ same.fault, ap (λ (w : Reading). messages_of w.bodies) whole ∙ same.messages)

pub inputs_make_pasts : InputsMakePasts
inputs_make_pasts inputs input = fold_push after_input nothing_past inputs input
