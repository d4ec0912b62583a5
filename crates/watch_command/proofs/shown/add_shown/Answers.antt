use Rattle.watch_command.proofs.Common.{ap, append-nil, Bool, drop, drop_all, flat_map, length, List, shown_byte, sym, ℕ, ◌++◌, ◌∙◌, ◌≡◌, ◌≤◌}
use Rattle.std.specs.Str.{is_utf8}
use Rattle.watch_command.specs.Shown.{shown}

all_shown : (text now words : List ℕ) (utf8 : Bool) (index : ℕ) → utf8 ≡ is_utf8 words → length words ≤ index
    → now ++ flat_map (shown_byte utf8) (drop index words) ≡ text ++ flat_map (shown_byte utf8) words → now ≡ text ++ shown words
unfolding shown
all_shown text now words utf8 index is all h =
    sym (append-nil now) ∙ ap (λ (l : List ℕ). now ++ flat_map (shown_byte utf8) l) (sym (drop_all index words all)) ∙ h
    ∙ ap (λ (b : Bool). text ++ flat_map (shown_byte b) words) is

pub returns : Rattle.watch_command.proofs.shown.add_shown.Goals.returns
returns c =
    all_shown c.args.text.now.items c.loop-byte.text.items c.args.words.now c.are_utf8-utf8.result c.loop-byte.byte-index c.are_utf8-utf8.ensures
    c.loop-byte-test.false c.loop-byte.invariant
