use Rattle.std.proofs.Common.{ap, string_bytes}
use Rattle.listing.specs.Entries.{entry}

pub returns : Rattle.listing.proofs.entries.push_entry.Goals.returns
returns c = (
  entry c.args.address c.word_at-word.result (string_bytes c.in_ok-text.text),
  record {
    text = string_bytes c.in_ok-text.text;
    is_text = rw c.word_at-word.ensures at c.in_ok-text.ensures;
    is_line = ap (λ word. entry c.args.address word (string_bytes c.in_ok-text.text)) c.word_at-word.ensures;
  },
  rw c.as_str.ensures.value at c.in_ok-push_line.ensures,
)
