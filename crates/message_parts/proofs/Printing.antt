-- What a writer hands over at the end of a value, where it was empty at the start.
use Rattle.message_parts.proofs.Common.{[], ap, Appends, compact_text, Data, depth, HasSmallNumbers, IsUtf8, List, Some, subst, sym, tokens_of, ℕ, ◌++◌, ◌∙◌, ◌≡◌, ◌≤◌, true}
use Rattle.json.specs.Lex.{tokens}
use Rattle.json.specs.Print.{print}
use Rattle.json.specs.Written.{Written}
use Rattle.serde_json.proofs.Texts.{print-outline}
use Rattle.serde_json.specs.Read.{max_depth}
use Rattle.message_parts.specs.Order.{is_ordered}
use Rattle.message_parts.proofs.Texts.{json_of-tokens}
use Rattle.protocol.specs.Json.{json_of}

-- it has written this value, and nothing else
pub record Holds (items : List ℕ) (end : Written) (value : Data) : Type 0 where
  pub items_are : items ≡ print end.tokens
  pub tokens_are : end.tokens ≡ tokens_of value

pub Holds-Appends : (items : List ℕ) (start end : Written) (value : Data) → start.before ≡ [] → start.tokens ≡ []
    → Appends start end (tokens_of value) → items ≡ end.before ++ print end.tokens → Holds items end value
Holds-Appends items start end value none empty h is = record {
  items_are = is ∙ ap (λ b. b ++ print end.tokens) (h.before ∙ none);
  tokens_are = h.tokens ∙ ap (λ ts. ts ++ tokens_of value) empty;
}

-- it is the value's compact text
pub compact_text-Holds : (items : List ℕ) (end : Written) (value : Data) → Holds items end value → items ≡ compact_text value
compact_text-Holds items end value h = h.items_are ∙ ap print h.tokens_are ∙ print-outline value

-- it reads as the value
pub json_of-Holds : (items : List ℕ) (end : Written) (value : Data) → Holds items end value → tokens (print end.tokens) ≡ end.tokens
    → IsUtf8 (print end.tokens) → HasSmallNumbers value → is_ordered value ≡ true → depth value ≤ max_depth → json_of items ≡ Some value
json_of-Holds items end value h reads_back utf8 small ordered shallow =
    json_of-tokens items value (subst IsUtf8 (sym h.items_are) utf8) (ap tokens h.items_are ∙ reads_back ∙ h.tokens_are) small ordered shallow
