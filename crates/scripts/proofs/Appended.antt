-- What a script has after several writes.
use Rattle.std.proofs.Common.{[], ℕ, List, ◌++◌, Option, Some, None, sym, ap, ◌∙◌, append_assoc, append-nil}
use Rattle.std.specs.Io.KnownBytes.{Appends, Keeps}

pub nothing_added : (script : Option (List ℕ)) → Appends script script []
nothing_added None = tt
nothing_added (Some xs) = sym (append-nil xs)

pub kept_as_is : (old new : Option (List ℕ)) → Keeps old new → Appends old new []
kept_as_is None new h = tt
kept_as_is (Some xs) None h = absurd h
kept_as_is (Some xs) (Some ys) h = h ∙ sym (append-nil xs)

pub appends_twice : (a b c : Option (List ℕ)) (first second : List ℕ) → Appends a b first → Appends b c second
    → Appends a c (first ++ second)
appends_twice None b c first second h k = tt
appends_twice (Some xs) None c first second h k = absurd h
appends_twice (Some xs) (Some ys) None first second h k = absurd k
appends_twice (Some xs) (Some ys) (Some zs) first second h k =
    k ∙ ap (λ (l : List ℕ). l ++ second) h ∙ append_assoc xs first second

pub then_kept : (a b c : Option (List ℕ)) (text : List ℕ) → Appends a b text → Keeps b c → Appends a c text
then_kept None b c text h k = tt
then_kept (Some xs) None c text h k = absurd h
then_kept (Some xs) (Some ys) None text h k = absurd k
then_kept (Some xs) (Some ys) (Some zs) text h k = k ∙ h
