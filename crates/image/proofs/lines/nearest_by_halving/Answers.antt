use Rattle.image.proofs.Common.{always_returns_same, false, nat_le, nat_lt, of_calls, rules, true, ◌≡◌}
use Rattle.std.specs.List.Sorted.{IsPartitionPoint}
use Rattle.image.proofs.Nearest.{le_tested, lt_tested, halved_to, halved_in_vain}
use Rattle.image.proofs.lines.nearest_by_halving.Goals as goal
use Rattle.image.proofs.lines.nearest_by_halving.Goals.{After-partition_point-count, After-partition_point-index}

-- how many addresses are not above the one that is looked for
counted : (c : After-partition_point-count)
    → IsPartitionPoint (λ e. nat_le e.1 c.args.addr ≡ true) (λ e. nat_le e.1 c.args.addr ≡ false) c.args.labels.now.entries c.partition_point-count.result
counted c =
    c.partition_point-count.ensures.partitioned (λ e. nat_le e.1 c.args.addr)
    (always_returns_same _ _ _ (λ a r f k. search (rules, of_calls)))
    (λ i j d l m up. le_tested c.args.labels.now.entries c.args.addr d c.requires i j l m up)

placed : (c : After-partition_point-index)
    → IsPartitionPoint (λ e. nat_lt e.1 c.address_at-greatest.result ≡ true) (λ e. nat_lt e.1 c.address_at-greatest.result ≡ false) c.args.labels.now.entries c.partition_point-index.result
placed c =
    c.partition_point-index.ensures.partitioned (λ e. nat_lt e.1 c.address_at-greatest.result)
    (always_returns_same _ _ _ (λ a r f k. search (rules, of_calls)))
    (λ i j d l m up. lt_tested c.args.labels.now.entries c.address_at-greatest.result d c.requires i j l m up)

pub returns-then-count-eq0 : goal.returns-then-count-eq0
returns-then-count-eq0 c =
    let point = counted (goal.at.returns-then-count-eq0 c).After-partition_point-count in
    halved_in_vain c.args.labels.now.entries c.args.addr c.partition_point-count.result c.if-count-eq0.true point.1

pub returns : goal.returns
returns c =
    let point = counted (goal.at.returns c).After-partition_point-count in
    let first = placed c in
    halved_to c.args.labels.now.entries c.args.addr c.partition_point-count.result c.address_at-greatest.result c.partition_point-index.result c.requires c.if-count-eq0.false c.partition_point-count.ensures.bound point.0 point.1 c.address_at-greatest.ensures c.partition_point-index.ensures.bound first.0 first.1
