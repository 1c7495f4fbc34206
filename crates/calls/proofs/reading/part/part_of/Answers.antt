use Rattle.std.proofs.Common.{◌≡◌, map, sym, subst, rules}
use Rattle.std.specs.Ordering.{nat_cmp, is_lt}
use Rattle.std.specs.Cmp.Lexicographic.{slice_cmp}
use Rattle.std.proofs.lemmas.Cmp.{nat_list_cmp_total}
use Rattle.std.proofs.lemmas.Fn.{always_returns_same}
use Rattle.std.proofs.lemmas.List.Sorted.{ranks_by}
use Rattle.calls.specs.Parts.{EndsPart, IsToldPart}
use Rattle.calls.specs.declared.reading.part.ToldName.{ToldName}
use Rattle.calls.proofs.PartLaws.{part_told, ties}
use Rattle.calls.proofs.reading.part.part_of.Goals as goal

pub returns : goal.returns
returns c =
    let up = c.sort_unstable_by.ensures.sorted (λ x y. is_lt (slice_cmp nat_cmp (ties x) (ties y))) (ranks_by nat_list_cmp_total ties) (always_returns_same _ (λ a r. is_lt r ≡ is_lt (slice_cmp nat_cmp (ties a.0.now) (ties a.1.0.now))) _ (λ a r f' k. search rules)) in
    let told = c.sort_unstable_by.new.self.items in
    subst (λ l. IsToldPart c.args.names.items c.args.after c.args.count l) (sym c.truncate.ensures.items)
    (part_told c.args.names.items c.args.after c.args.count c.end_of_part-end.result c.in_ok-told.told.items told c.requires.ordered c.requires.some c.in_ok-told.ensures c.sort_unstable_by.ensures.permutation up
    (subst (λ l. EndsPart (map (λ (t : ToldName). t.cookie) l) c.args.count c.end_of_part-end.result) c.deref.ensures.value c.end_of_part-end.ensures))
