use Rattle.answers.proofs.Common.{ap, arith, byte_at, rules, Some, sym, ◌+◌, ◌<◌, ◌^◌, ◌∙◌, ◌≡◌}
use Rattle.answers.proofs.MemoryBytes.{one_more}

pub loop-index-preserved : Rattle.answers.proofs.read_memory.bytes_from.Goals.loop-index-preserved
loop-index-preserved c =
    let place : c.in-Some.place ≡ c.args.address + c.loop-index.index = search rules in
    let small : c.args.address + c.loop-index.index < 2 ^ 32 = search rules in
    let there : byte_at c.args.memory.now c.in-Some.place ≡ Some c.in-Some-byte.byte = search rules in
    record {
      bytes =
          one_more c.args.memory.now c.args.count c.args.address c.loop-index.index c.in-Some-byte.byte _ _ c.requires c.loop-index-test.true (ap (byte_at c.args.memory.now) (sym place) ∙ there) c.loop-index.invariant.bytes c.in_ok-push-in-Some-byte.ensures.items;
      room = omega (arith, small);
    }
