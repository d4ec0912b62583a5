-- The references that an answer issues have numbers.
use Rattle.session.proofs.Common.{answer_to, Answering, call_of, given_of, HasNumbers, IsPrepared, List, Now, Option, Pending, Prepared, Terms, ℕ}
use Rattle.session.proofs.Serving.{of_answer}
use Rattle.session.proofs.BySuccess.{by_success}

-- An answer that was written issues what there are numbers for: it does so by a look alone, which has room for them.
pub prepared_has_numbers : (now : Now) (terms : Terms) (file : Option (List ℕ)) (p : Pending) (r : Prepared)
    → IsPrepared now p (answer_to now terms file p) r → HasNumbers (call_of r.change) now.numbers
prepared_has_numbers now terms file p r h =
    let P : Answering → Type 0 = λ a. HasNumbers a.references now.numbers in
    rw h.references (of_answer (λ ask. P) now terms file p.ask p.fate (λ refusal _. tt)
    (λ s taken meets. by_success (given_of now) terms (λ c. P) (assumption) file s.command meets.loaded))
