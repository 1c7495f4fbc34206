use Rattle.std.proofs.Common.{◌∙◌, ap, rules, not, nat_eq, List, map, tests}
use Rattle.std.specs.Cmp.Lexicographic.{pointwise}
use Rattle.std.proofs.lemmas.Fn.{filter_same}
use Rattle.served.specs.Known.{Seen, seen_of, known_of, with_snapshots}
use Rattle.served.specs.declared.memory.Snapshot.{Snapshot}
use Rattle.served.proofs.MemoryLaws.{filter-seen}
use Rattle.served.proofs.memory.Memory.drop_snapshot.Goals as goal

pub returns : goal.returns
returns c =
    let old = c.args.self.now in
    let name = c.args.name.now in
    ap (λ (seen : List Seen). with_snapshots seen old.next_id (known_of old))
    (ap (λ (xs : List Snapshot). map seen_of xs) (filter_same _ (λ (s : Snapshot). not (pointwise nat_eq s.name.items name)) _ (λ x b f k. search (rules, tests)) old.snapshots.items c.retain.new.self.items c.retain.ensures.filtered)
    ∙ filter-seen (λ (s : Seen). not (pointwise nat_eq s.name name)) old.snapshots.items)
