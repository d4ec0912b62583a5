use Rattle.variables.proofs.Common.{[], ap, List, name_at, range_with_len, slice_index, words, ℕ, ◌*◌, ◌++◌, ◌∙◌, ◌∷◌}
use Rattle.message_parts.specs.declared.variables.Variable.{Variable}
use Rattle.rv32i.specs.Machine.{sum}
use Rattle.variables.specs.Stack.{stack_words}
use Rattle.variables.proofs.Ranges.{has_it, value_of_it, words_on}
use Rattle.variables.proofs.stack.stack_words.Goals as goal

pub loop-number-init : goal.loop-number-init
unfolding stack_words
loop-number-init c = record {
  listed =
      ap (λ (l : List Variable). l ++ words c.args.memory.now (slice_index c.args.hart.now.x 2)
      (range_with_len 0 64)) c.new-words.ensures.items;
}

pub loop-number-preserved : goal.loop-number-preserved
loop-number-preserved c =
    let memory = c.args.memory.now in
    let sp = slice_index c.args.hart.now.x 2 in
    let k = c.loop-number.number in
    let address = sum sp (4 * k) in
    let value = value_of_it memory address c.in-Some.value c.word_anywhere.result c.in-Some.is c.word_anywhere.ensures in
    record {
      listed =
          words_on memory sp k 64 c.loop-number.words.items c.push.new.self.items
          (stack_words c.args.hart.now memory) c.loop-number-test.true
          (has_it memory address c.in-Some.value c.word_anywhere.result c.in-Some.is c.word_anywhere.ensures)
          (c.in_ok-push-in-Some.ensures.items
          ∙ ap (λ (v : Variable). c.loop-number.words.items ++ v ∷ [])
          (c.in_ok-variable_at-in-Some.ensures ∙ ap (λ (w : ℕ). record { name = name_at (4 * k); value = w }) value))
          c.loop-number.invariant.listed;
    }
