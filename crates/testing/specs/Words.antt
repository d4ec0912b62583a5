-- An answer that is made word by word, with a space between two words.
use Rattle.std.specs.Prelude.{ℕ, Bool, true, false, if◌then◌else◌, List, [], ◌∷◌, ◌++◌}

-- the answer so far, and whether it has a word
pub record Words : Type 0 where
  pub text : List ℕ
  pub is_begun : Bool

-- before the first word
abbrev pub no_words : Words
no_words = record { text = []; is_begun = false }

-- a word more; 32 is a space
abbrev pub and_word : List ℕ → Words → Words
and_word word so_far =
    record { text = (if so_far.is_begun then so_far.text ++ 32 ∷ [] else so_far.text) ++ word; is_begun = true }
