-- Entries and lists, one breakpoint further.
use Rattle.answers.proofs.Common.{[], add-one, ap, append_assoc, arith, drop, drop-cons, entries_of, Err, followed_by, get_or, length, List, list_of, next_after, Ok, Problem, refl, Result, suc, sym, Wanted, ℕ, ◌++◌, ◌+◌, ◌<◌, ◌∙◌, ◌∷◌, ◌≡◌, ◌≤◌}

-- what is left begins with the item that is read
pub left_from : {A : Type 0} (asked : List A) (i : ℕ) (item : A) → i < length asked → item ≡ get_or asked i item
    → drop i asked ≡ item ∷ drop (i + 1) asked
left_from asked i item h is = rw add-one (drop-cons asked i item h ∙ ap (λ x. x ∷ drop (suc i) asked) (sym is))

-- the item before the others
pub followed : {P : Type 0} (wanted : ℕ → P → Wanted) (next : ℕ) (judged : Result P Problem) (others : List Wanted)
    → followed_by wanted next judged others ≡ followed_by wanted next judged [] ++ others
followed wanted next (Ok place) others = refl
followed wanted next (Err problem) others = refl

pub entries_on : {A P E : Type 0} (judged : A → Result P Problem) (entry : ℕ → A → Result P Problem → E) (asked : List A) (i : ℕ) (item : A) (next next' : ℕ) (done done' all : List E) (e : E)
    → i < length asked → item ≡ get_or asked i item
    → done ++ entries_of judged entry next (drop i asked) ≡ all
    → e ≡ entry next item (judged item)
    → next' ≡ next_after next (judged item)
    → done' ≡ done ++ e ∷ []
    → done' ++ entries_of judged entry next' (drop (i + 1) asked) ≡ all
entries_on judged entry asked i item next next' done done' all e h is so entry_is next_is done_is =
    let left : drop i asked ≡ item ∷ drop (i + 1) asked = left_from asked i item h is in
    let one : entries_of judged entry next (drop i asked) ≡ entry next item (judged item) ∷ entries_of judged entry
    (next_after next (judged item)) (drop (i + 1) asked) = ap (entries_of judged entry next) left in
    let more : e ∷ entries_of judged entry next' (drop (i + 1) asked) ≡ entries_of judged entry next (drop i asked) = ap
    (λ x. x ∷ entries_of judged entry next' (drop (i + 1) asked)) entry_is
    ∙ ap (λ n. entry next item (judged item) ∷ entries_of judged entry n (drop (i + 1) asked)) next_is ∙ sym one in
    ap (λ x. x ++ entries_of judged entry next' (drop (i + 1) asked)) done_is
    ∙ append_assoc done (e ∷ []) (entries_of judged entry next' (drop (i + 1) asked)) ∙ ap (λ x. done ++ x) more ∙ so

pub list_on : {A P : Type 0} (judged : A → Result P Problem) (wanted : ℕ → P → Wanted) (asked : List A) (i : ℕ) (item : A) (next next' : ℕ) (done done' all : List Wanted)
    → i < length asked → item ≡ get_or asked i item
    → done ++ list_of judged wanted next (drop i asked) ≡ all
    → next' ≡ next_after next (judged item)
    → done' ≡ done ++ followed_by wanted next (judged item) []
    → done' ++ list_of judged wanted next' (drop (i + 1) asked) ≡ all
list_on judged wanted asked i item next next' done done' all h is so next_is done_is =
    let left : drop i asked ≡ item ∷ drop (i + 1) asked = left_from asked i item h is in
    let rest : List Wanted = list_of judged wanted next' (drop (i + 1) asked) in
    let one : list_of judged wanted next (drop i asked) ≡ followed_by wanted next (judged item)
    (list_of judged wanted (next_after next (judged item)) (drop (i + 1) asked)) = ap (list_of judged wanted next) left in
    let more : followed_by wanted next (judged item) [] ++ rest ≡ list_of judged wanted next (drop i asked) = sym
    (followed wanted next (judged item) rest)
    ∙ ap (λ n. followed_by wanted next (judged item) (list_of judged wanted n (drop (i + 1) asked))) next_is ∙ sym one in
    ap (λ x. x ++ rest) done_is ∙ append_assoc done (followed_by wanted next (judged item) []) rest ∙ ap (λ x. done ++ x) more ∙ so

-- numbers rise by one at most
pub next_small : {P : Type 0} (first i next next' : ℕ) (judged : Result P Problem) → next' ≡ next_after next judged → next ≤ first + i
    → next' ≤ first + (i + 1)
next_small first i next next' (Ok place) e h = omega (arith, e, h)
next_small first i next next' (Err problem) e h = omega (arith, e, h)
