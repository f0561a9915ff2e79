use Rattle.std.proofs.Common.{refl, sym, leb, rules}
use Rattle.std.proofs.lemmas.List.Sorted.{IsPartitionPoint-from_clause}
use Rattle.sheets.specs.Comparisons.{imp_count, limits}
use Rattle.sheets.proofs.Limits.{count_at, limits_parted}
use Rattle.sheets.proofs.comparisons.imps_for.Goals as goal

pub returns-clause-count : goal.returns-clause-count
unfolding imp_count
returns-clause-count c =
    let at = IsPartitionPoint-from_clause (λ y. leb y c.args.size) limits c.partition_point.result c.partition_point.ensures.partitioned (limits_parted c.args.size) (λ a r f q. search rules) in
    sym (count_at (λ y. leb y c.args.size) limits c.partition_point.result c.partition_point.ensures.bound at)

pub returns-clause-table : goal.returns-clause-table
unfolding imp_count
returns-clause-table c = (refl, refl)
